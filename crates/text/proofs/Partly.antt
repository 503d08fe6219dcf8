-- A text stored part by part.
use Prim.Native.Nat.{ℕ, ◌+◌, ◌≤◌}
use mathlib.Core.Path.{◌≡◌, refl, ◌∙◌}
use mathlib.Core.List.{List, ◌++◌}
use native.Mathlib.Omega.{arith}
use lib.ListN.{length, length-append}
use lib.Seq.{sets}
use Rattle.text.specs.Walk.{Partly}
use Rattle.leaves.proofs.Stores.{stores}

module _ (output : List ℕ) (at : ℕ) (text : List ℕ) where
  -- nothing yet
  pub part_none : Partly output at text output at text
  part_none = record { onward = omega arith; count = refl; bytes = refl }

  -- a part, and then a part of what was left
  pub part_then : {output' output'' text' text'' : List ℕ} {at' at'' : ℕ}
      → Partly output at text output' at' text' → Partly output' at' text' output'' at'' text''
      → Partly output at text output'' at'' text''
  part_then p q = record {
    onward = omega (arith, p.onward, q.onward);
    count = q.count ∙ p.count;
    bytes = q.bytes ∙ p.bytes;
  }

  -- there is room for what is left
  pub part_room : {output' text' : List ℕ} {at' : ℕ} → Partly output at text output' at' text'
      → length output' ≡ length output → at + length text ≤ length output
      → at' + length text' ≤ length output'
  part_room p k h = omega (arith, p.count)

  -- so many bytes of it
  module _ (bytes text' : List ℕ) (e : text ≡ bytes ++ text') where
    long : length text ≡ length bytes + length text'
    long = rw e (length-append bytes text')

    pub put_fits : {n : ℕ} → at + length text ≤ n → at + length bytes ≤ n
    put_fits h = omega (arith, long)

    pub part_put : {output' : List ℕ} {at' : ℕ} → (output' ≡ sets output at bytes) × (at' ≡ at + length bytes) → Partly output at text output' at' text'
    part_put s = record {
      onward = omega (arith, s.1);
      count = omega (arith, s.1, long);
      bytes = rw (s.0, s.1, e) (stores output at bytes text');
    }
