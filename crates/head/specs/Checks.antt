-- The checks: when a value is out, how failures are counted, which check trips. ps are the 25 parameters.
use Rattle.std.specs.Prelude.{ℕ, zero, suc, ◌+◌, ◌-◌, ◌*◌, ◌/◌, ◌%◌, ◌^◌, min, max, Bool, false, cond, not, ◌&&◌, ◌||◌, List, Some, None, Option, ◌==◌, nat_le, nat_lt, slice_index, slice_index_or}
use Rattle.head.specs.declared.checks.Check.{Check}
use Rattle.head.specs.declared.checks.Check.TheVariants.{Plate, Strip, Anode, Rate, Temperature}
use Rattle.head.specs.declared.checks.Sample.{Sample}

-- bit i of a byte
abbrev pub bit : ℕ → ℕ → Bool
bit mask i = mask / 2 ^ i % 2 == 1

-- the number of a check
abbrev pub number_of : Check → ℕ
number_of Plate = 0
number_of Strip = 1
number_of Anode = 2
number_of Rate = 3
number_of Temperature = 4

-- the parameter i
abbrev pub par : List ℕ → ℕ → ℕ
par ps i = slice_index ps i

-- how far two values differ
abbrev pub apart : ℕ → ℕ → ℕ
apart x y = (x - y) + (y - x)

-- the plate voltage to expect at a set point: the whole part of set point × factor ÷ 16
abbrev pub expected : ℕ → ℕ → ℕ
expected h factor = h * factor / 16

-- check 0, at the larger set point h and the larger plate voltage m
abbrev pub plate_out : List ℕ → ℕ → ℕ → Bool
plate_out ps h m = nat_lt (par ps 1) h || (nat_lt (par ps 0) h && nat_lt (par ps 2) (apart m (expected h (par ps 6))))

-- check 1, at the sum s of the strip currents
abbrev pub strip_out : List ℕ → ℕ → Bool
strip_out ps s = nat_lt (par ps 3) s

-- check 2, at the larger set point h and the larger anode voltage a
abbrev pub anode_out : List ℕ → ℕ → ℕ → Bool
anode_out ps h a = nat_lt (par ps 5) a || (nat_lt (par ps 0) h && nat_lt a (par ps 4))

-- the larger and the sum of a pair of readings
abbrev pub larger : List ℕ → ℕ
larger two = max (slice_index two 0) (slice_index two 1)

abbrev pub sum : List ℕ → ℕ
sum two = slice_index two 0 + slice_index two 1

-- check c finds the sample out, at the larger set point h
unfoldable pub out : List ℕ → ℕ → Sample → ℕ → Bool
out ps h x zero = plate_out ps h (larger x.plate)
out ps h x (suc zero) = strip_out ps (sum x.strip)
out ps h x (suc (suc c)) = anode_out ps h (larger x.anode)

-- a count of failures in a row, after one sample more
abbrev pub counted : Bool → ℕ → ℕ
counted isOut n = cond isOut (min 255 (n + 1)) 0

-- check c is masked by its bit of parameter 20
unfoldable pub masked : List ℕ → ℕ → Bool
masked ps c = bit (par ps 20) c

-- check c, one of the first three, trips at the count n
abbrev pub reached : List ℕ → ℕ → ℕ → Bool
reached ps c n = not (masked ps c) && nat_le (par ps (7 + c)) n

-- the rate at raw count n, where the count before was b: what it rose by modulo 16,777,216, at most 65,535
unfoldable pub rate : ℕ → ℕ → ℕ
rate b n = min 65535 ((n + 16777216 - b) % 16777216)

-- the rate is 0 where there is no count before
abbrev pub rate_at : Option ℕ → ℕ → ℕ
rate_at None n = 0
rate_at (Some b) n = rate b n

-- check 3 trips at a rate above 256 times parameter 10
abbrev pub rate_trips : List ℕ → ℕ → Bool
rate_trips ps r = not (masked ps 3) && nat_lt (256 * par ps 10) r

-- sensor i is above its limit, and bit i of parameter 19 is clear
abbrev pub sensor_out : List ℕ → List ℕ → ℕ → Bool
sensor_out ps ts i = nat_lt (par ps (11 + i)) (slice_index ts i) && not (bit (par ps 19) i)

-- the test holds at some number below n
abbrev pub some_below : (ℕ → Bool) → ℕ → Bool
some_below test zero = false
some_below test (suc n) = test n || some_below test n

-- one of the eight sensors is too warm
unfoldable pub warm : List ℕ → List ℕ → Bool
warm ps ts = some_below (sensor_out ps ts) 8

-- check 4 trips at these temperatures
abbrev pub sensors_trip : List ℕ → List ℕ → Bool
sensors_trip ps ts = not (masked ps 4) && warm ps ts

abbrev tests : List Bool → Check → Option Check → Option Check
tests ts c rest = cond (slice_index_or ts (number_of c) false) (Some c) rest

-- the lowest check that trips, where the list says it of each
abbrev pub lowest : List Bool → Option Check
lowest ts = tests ts Plate (tests ts Strip (tests ts Anode (tests ts Rate (tests ts Temperature None))))
