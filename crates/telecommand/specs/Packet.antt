-- The CCSDS space packet: octets 0 and 1 identify it, 2 and 3 have the sequence flags and count, 4 and 5 one less than
-- the length of the data field, which is everything from octet 6.
use Rattle.std.specs.Prelude.{ℕ, ◌+◌, ◌*◌, ◌/◌, ◌%◌, Bool, not, ◌&&◌, List, [], ◌∷◌, length, drop, Ok, Result, ◌==◌, nat_le, slice_index}
use Rattle.codes.specs.Reports.{refuse}
use Rattle.telecommand.specs.declared.fault.ReadFault.{ReadFault}
use Rattle.telecommand.specs.declared.fault.ReadFault.TheVariants.{Length, Header}

-- the number in the two octets from i on, high first
abbrev pub word : List ℕ → ℕ → ℕ
word b i = slice_index b i * 256 + slice_index b (i + 1)

-- at least 8 octets, and 7 more than the number in octets 4 and 5
abbrev pub sized : List ℕ → Bool
sized b = nat_le 8 (length b) && length b == 7 + word b 4

-- the data field of a packet that begins with these two octets and has the sequence flags 11, or the first fault
abbrev pub field_of : ℕ → ℕ → List ℕ → Result (List ℕ) ReadFault
field_of high low b =
    refuse (not (sized b)) Length
    (refuse (not (slice_index b 0 == high)) (Header 0)
    (refuse (not (slice_index b 1 == low)) (Header 1)
    (refuse (not (slice_index b 2 / 64 == 3)) (Header 2)
    (Ok (drop 6 b)))))

-- the header of a packet with sequence flags 11, this sequence count and one octet more than n in its data field
abbrev pub header : ℕ → ℕ → ℕ → ℕ → List ℕ
header high low count n = high ∷ low ∷ (0xC0 + count / 256) ∷ count % 256 ∷ n / 256 ∷ n % 256 ∷ []
