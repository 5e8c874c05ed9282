-- Event lines and their text.
use Rattle.std.specs.Prelude.{◌≡◌, ℕ, ◌^◌, ◌<◌, ◌≤◌, List, [], ◌∷◌, ◌++◌, length, IfSome, decimal, Option}
use Rattle.head.specs.declared.checks.Mark.{Mark}
use Rattle.head.specs.declared.checks.Sample.{Sample}
use Rattle.script.specs.Hex.{hex, octets_in, Sound}
use Rattle.script.specs.Numbers.{spaced, Bytes}
use Rattle.script.specs.declared.event.EventLine.{EventLine}
use Rattle.script.specs.declared.event.EventLine.TheVariants.{Frame, Ticks, Sample as Sampled, Second}
use Rattle.script.specs.declared.outcome.Kind.{Kind}
use Rattle.script.specs.declared.outcome.Kind.TheVariants.{PowerOn, Frame as OfFrame, Ticks as OfTicks, Sample as OfSample, Second as OfSecond}

-- the letter of a line: P, F, T, H, S
abbrev pub letter_of : Kind → ℕ
letter_of PowerOn = 80
letter_of OfFrame = 70
letter_of OfTicks = 84
letter_of OfSample = 72
letter_of OfSecond = 83

-- the kind of an event
abbrev pub kind_of : EventLine → Kind
kind_of (Frame o) = OfFrame
kind_of (Ticks n) = OfTicks
kind_of (Sampled s) = OfSample
kind_of (Second m) = OfSecond

-- the field of a frame: its octets, or `-` for none
abbrev pub frame_field : List ℕ → List ℕ
frame_field [] = 45 ∷ []
frame_field (b ∷ bs) = hex (b ∷ bs)

-- the six bytes of a sample: plates, strips, anodes
abbrev pub sample_bytes : Sample → List ℕ
sample_bytes s = s.plate ++ (s.strip ++ s.anode)

-- what follows the letter and a space
abbrev pub fields_of : EventLine → List ℕ
fields_of (Frame o) = frame_field (octets_in o)
fields_of (Ticks n) = decimal n
fields_of (Sampled s) = spaced (sample_bytes s)
fields_of (Second m) = spaced (m.raw ∷ m.temperatures)

-- the text of an event line
abbrev pub text_of : EventLine → List ℕ
text_of x = letter_of (kind_of x) ∷ 32 ∷ fields_of x

-- two plates, two strips and two anodes, a byte each
pub record SixBytes (s : Sample) : Type 0 where
  pub plates : length s.plate ≡ 2
  pub strips : length s.strip ≡ 2
  pub anodes : length s.anode ≡ 2
  pub small : Bytes (sample_bytes s)

-- a raw count of 32 bits, and eight temperatures of a byte each
pub record MarkFits (m : Mark) : Type 0 where
  pub raw : m.raw < 2 ^ 32
  pub sensors : length m.temperatures ≡ 8
  pub small : Bytes m.temperatures

-- the values that a line may have
abbrev pub InRange : EventLine → Type 0
InRange (Frame o) = Sound o
InRange (Ticks n) = (1 ≤ n) × (n ≤ 65535)
InRange (Sampled s) = SixBytes s
InRange (Second m) = MarkFits m

-- in range, and with the letter of one kind
abbrev pub Of : Kind → EventLine → Type 0
Of k x = InRange x × (letter_of (kind_of x) ≡ letter_of k)

-- no other value in range has the text of what was read
abbrev pub Only : List ℕ → Option EventLine → Type 0
Only text r = IfSome r (λ x. (y : EventLine) → InRange y → text_of y ≡ text → y ≡ x)
