-- What a command asks of the head, and what holds of it whatever the head's state.
use Rattle.std.specs.Prelude.{◌≡◌, ℕ, Bool, true, false, cond, Some, None, Option, ◌==◌, slice_index}
use Rattle.telecommand.specs.Packet.{word}
use Rattle.telecommand.specs.Commands.{Telecommand, kind_in, commands, kind}
use Rattle.telecommand.specs.Shown.{said}
use Rattle.telecommand.specs.declared.command.Command.{Command}
use Rattle.telecommand.specs.declared.kinds.Kind.{Kind}
use Rattle.head.specs.declared.Order.{Order}
use Rattle.head.specs.declared.Order.TheVariants.{SetParameter, OpenDoor, SetSupply, FireRelease}
use Rattle.head.specs.declared.request.Request.{Request}
use Rattle.head.specs.declared.request.Request.TheVariants.{Nothing, Safe, Checkout, Confirm, CloseDoor, SuppliesOff, Heater, Critical}

abbrev pub first : Telecommand → ℕ
first t = slice_index t.words 0

abbrev pub second : Telecommand → ℕ
second t = slice_index t.words 1

abbrev asks : Telecommand → ℕ → Request → Request → Request
asks t op q rest = cond (t.opcode == op) q rest

-- what a command asks; a word has two octets, and a confirm has two words
abbrev pub request_of : Telecommand → Request
request_of t =
    asks t 0x6602 Safe
    (asks t 0x6603 Checkout
    (asks t 0x6604 (Confirm (word t.words 0) (word t.words 2))
    (asks t 0x6607 (Critical (SetParameter (first t) (second t)))
    (asks t 0x660d CloseDoor
    (asks t 0x660e SuppliesOff
    (asks t 0x660f (Critical OpenDoor)
    (asks t 0x6610 (Critical (SetSupply (first t) (second t)))
    (asks t 0x6611 (Heater (first t) (second t))
    (asks t 0x6612 (Critical (FireRelease (first t) (second t)))
    Nothing)))))))))

abbrev pub order_op : Order → ℕ
order_op (SetParameter i v) = 0x6607
order_op OpenDoor = 0x660f
order_op (SetSupply s v) = 0x6610
order_op (FireRelease l n) = 0x6612

abbrev pub op_of : Request → ℕ
op_of Nothing = 0x6601
op_of Safe = 0x6602
op_of Checkout = 0x6603
op_of (Confirm a b) = 0x6604
op_of CloseDoor = 0x660d
op_of SuppliesOff = 0x660e
op_of (Heater i v) = 0x6611
op_of (Critical o) = order_op o

abbrev pub is_critical : Request → Bool
is_critical Nothing = false
is_critical Safe = false
is_critical Checkout = false
is_critical (Confirm a b) = false
is_critical CloseDoor = false
is_critical SuppliesOff = false
is_critical (Heater i v) = false
is_critical (Critical o) = true

abbrev kind_or : Option Kind → Kind
kind_or None = kind 0 0 false false
kind_or (Some k) = k

-- the marks of an op-code in the table of commands
abbrev pub marked : ℕ → Kind
marked op = kind_or (kind_in commands op)

-- refused in SAFE, by the mark of its op-code
abbrev pub barred : Request → Bool
barred q = (marked (op_of q)).not_in_safe

-- what a command asks, critical exactly where the table of commands marks its op-code so
abbrev pub Asks : Command → Request → Type 0
Asks command request = (request ≡ request_of (said command)) × (is_critical request ≡ (marked (op_of request)).critical)
