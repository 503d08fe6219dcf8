-- The bits of a width as a number of the machine, signed and 64 bits wide.
use Prim.Native.Nat.{ℕ, ◌*◌, ◌/◌, ◌%◌, ◌^◌, ◌≤◌, ◌<◌}
use mathlib.Core.Path.{◌≡◌, sym, ◌∙◌}
use native.Mathlib.Nat.{mod-eq_of_lt, one-mul}
use native.Mathlib.Omega.{arith}
use lib.IntN.{pos, ◌-ℤ◌}
use lib.Pow.{pow-lt}
use mir.Syntax.{w64}
use mir.Val.{SFits, to_z}
use mir.ValLaws.{to_z_pos}
use Rattle.format.specs.Bits.{from_bits}
use Rattle.words.specs.declared.layout.Layout.{Layout}
use Rattle.words.proofs.Widths.{two-halves, half_of, lower, upper, signed_range}

-- the bits of a word: fewer than the 64 of an answer
module _ (layout : Layout) (bits : ℕ) (below : bits < 2 ^ (8 * layout.width)) where
  abbrev w : ℕ
  w = layout.width

  values-below : 2 ^ (8 * w) < 2 ^ 63
  values-below = let whole : 8 * w < 63 = omega (arith, layout.narrow) in pow-lt whole

  -- the machine's shift gives all values of the width
  pub all_values : (1 * 2 ^ (8 * w)) % 2 ^ 64 ≡ 2 ^ (8 * w)
  all_values = mod-eq_of_lt (omega (arith, values-below)) ∙ one-mul (2 ^ (8 * w))

  pub bits_fit : SFits w64 (pos bits)
  bits_fit = record { sfits = omega (arith, below, values-below) }

  pub values_fit : SFits w64 (pos (2 ^ (8 * w)))
  values_fit = record { sfits = values-below }

  pub number_fits : SFits w64 (from_bits (8 * w) bits)
  number_fits = record { sfits = omega (arith, values-below, two-halves w layout.wide, signed_range w layout.wide bits below) }

  -- the machine's numbers: the bits as they are, and those less all values of the width
  pub unsigned_number : to_z w64 bits ≡ pos bits
  unsigned_number = to_z_pos w64 bits bits_fit.sfits

  pub lower-number : bits < (1 * 2 ^ (8 * w)) % 2 ^ 64 / 2 → to_z w64 bits ≡ from_bits (8 * w) bits
  lower-number h = unsigned_number ∙ sym (lower w layout.wide bits below (rw (all_values, half_of w layout.wide) at h))

  pub upper-number : (1 * 2 ^ (8 * w)) % 2 ^ 64 / 2 ≤ bits → to_z w64 bits -ℤ to_z w64 ((1 * 2 ^ (8 * w)) % 2 ^ 64) ≡ from_bits (8 * w) bits
  upper-number h =
      let values = to_z_pos w64 (2 ^ (8 * w)) values-below in
      rw (all_values, unsigned_number, values) (sym (upper w layout.wide bits below (rw (all_values, half_of w layout.wide) at h)))
