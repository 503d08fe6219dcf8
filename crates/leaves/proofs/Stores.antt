-- Bytes stored after bytes.
use Prim.Native.Nat.{ℕ, suc, ◌+◌}
use mathlib.Core.Path.{◌≡◌, ◌∙◌}
use mathlib.Core.List.{List, [], ◌∷◌, ◌++◌}
use native.Mathlib.Nat.{add-zero}
use native.Mathlib.Omega.{arith}
use lib.ListN.{length, set, length-append}
use lib.Seq.{sets}

-- two stores, the second where the first ends, are one
pub stores : (out : List ℕ) (at : ℕ) (x y : List ℕ) → sets (sets out at x) (at + length x) y ≡ sets out at (x ++ y)
stores out at [] y = rw add-zero
stores out at (b ∷ x) y = let e : at + suc (length x) ≡ suc at + length x = omega arith in rw e (stores (set out at b) (suc at) x y)

-- x stored into an output from `at` on leaves that output, and that place after it
abbrev pub Stored : List ℕ → ℕ → List ℕ → List ℕ → ℕ → Type 0
Stored out at x left next = (left ≡ sets out at x) × (next ≡ at + length x)

-- x stored, and then y after it
pub stored-both : (out : List ℕ) (at : ℕ) (x y : List ℕ) {mid left : List ℕ} {m next : ℕ}
    → Stored out at x mid m → Stored mid m y left next → Stored out at (x ++ y) left next
stored-both out at x y a b = (b.0 ∙ rw (a.0, a.1) (stores out at x y), omega (arith, a.1, b.1, length-append x y))
