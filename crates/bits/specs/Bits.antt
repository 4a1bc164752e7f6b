-- Bits and bytes. A number's bits at any width, most significant first; the number that bits say; numbers as fields with no gap;
-- bits as bytes, with zeros in the unused bits of the last byte, and back; what fits into bytes. A bit is a Bool: `false` is 0 and
-- `true` is 1. The laws are in proofs/Laws, and those of what fits in proofs/Fits. Assumes nothing.
use Rattle.std.specs.Prelude.{ℕ, zero, suc, ◌+◌, ◌-◌, ◌*◌, ◌/◌, ◌%◌, ◌^◌, Bool, true, false, ◌&&◌, List, [], ◌∷◌, ◌++◌, leb, length, take, drop, replicate}

-- the bit that 0 or 1 is
abbrev pub is_one : ℕ → Bool
is_one zero = false
is_one (suc n) = true

-- 0 or 1, by a bit
abbrev pub digit : Bool → ℕ
digit false = 0
digit true = 1

-- the w low bits of v
unfoldable pub bits : ℕ → ℕ → List Bool
bits zero v = []
bits (suc w) v = is_one (v / 2 ^ w % 2) ∷ bits w v

-- the number that bits say
unfoldable pub number : List Bool → ℕ
number [] = 0
number (b ∷ bs) = digit b * 2 ^ length bs + number bs

-- numbers as bits, w to each, with no gap: the bits of bytes are `fields 8`
unfoldable pub fields : ℕ → List ℕ → List Bool
fields w [] = []
fields w (v ∷ vs) = bits w v ++ fields w vs

-- n numbers of w bits each, from the front of bs
unfoldable pub split : ℕ → ℕ → List Bool → List ℕ
split w zero bs = []
split w (suc n) bs = number (take w bs) ∷ split w n (drop w bs)

-- up to the next whole byte, with zeros
unfoldable pub padded : List Bool → List Bool
padded bs = bs ++ replicate ((8 - length bs % 8) % 8) false

-- bits as bytes
unfoldable pub bytes_of : List Bool → List ℕ
bytes_of bs = split 8 (length (padded bs) / 8) (padded bs)

-- the bytes that n bits take
abbrev pub bytes_for : ℕ → ℕ
bytes_for n = (n + 7) / 8

-- n fields of w bits, w at most `widest`, fit into `room` bytes from the byte `at` on
abbrev pub room_fits : ℕ → ℕ → ℕ → ℕ → ℕ → Bool
room_fits widest w n at room = leb w widest && leb (at + bytes_for (n * w)) room

-- a list with its first elements replaced by ys
unfoldable pub over : List ℕ → List ℕ → List ℕ
over ys l = ys ++ drop (length ys) l

-- a list with ys in the place of its elements from `at` on
unfoldable pub over_at : ℕ → List ℕ → List ℕ → List ℕ
over_at at ys l = take at l ++ over ys (drop at l)
