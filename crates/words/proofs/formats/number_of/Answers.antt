-- `words::formats::number_of` meets its contract: the bytes leave the bit above them alone.
use Prim.Native.Nat.{ℕ, ◌+◌, ◌*◌, ◌%◌, ◌^◌, ◌<◌}
use mathlib.Core.Path.{◌≡◌, refl}
use native.Mathlib.Nat.{mod-eq_of_lt, one-mul}
use native.Mathlib.Omega.{arith}
use lib.ListN.{length}
use lib.Pow.{pow-lt}
use Rattle.std.specs.Int.Bits.{bit_or}
use Rattle.std.proofs.lemmas.Nat.{or_shifted}
use Rattle.format.specs.Word.{big}
use Rattle.words.specs.Known.{order_of}
use Rattle.words.proofs.Joins.{bytes_of, joined-below}
use Rattle.words.proofs.formats.number_of.Goals as goal

bit_above : (k b : ℕ) → k < 64 → b < 2 ^ k → bit_or ((1 * 2 ^ k) % 2 ^ 64) b ≡ 2 ^ k + b
bit_above k b h u =
    let fits : 2 ^ k < 2 ^ 64 = pow-lt h in
    rw (mod-eq_of_lt {n = 1 * 2 ^ k} {m = 2 ^ 64} (omega arith), or_shifted 1 k b u, one-mul (2 ^ k)) refl

pub returns : goal.returns
unfolding order_of
returns c =
    let name = c.args.name.now in
    rw c.join.ensures (bit_above (8 * length name) _ c.requires (joined-below big name (bytes_of name (λ i u. (c.type_inv.name i).fits))))
