-- Two's complement, at any width: 01, 'Row table', kind 1, and 'Sensor words'.
use Rattle.std.specs.Prelude.{ℕ, suc, ◌-◌, ◌^◌, cond, ℤ, pos, negsuc, ltb}

-- the bits of an integer, as a natural number
unfoldable pub to_bits : ℕ → ℤ → ℕ
to_bits bits (pos n) = n
to_bits bits (negsuc n) = 2 ^ bits - suc n

-- the integer that so many bits stand for
unfoldable pub from_bits : ℕ → ℕ → ℤ
from_bits bits n = cond (ltb n (2 ^ (bits - 1))) (pos n) (negsuc (2 ^ bits - suc n))
