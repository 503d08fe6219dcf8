-- The register byte at a place of a message.
use Prim.Native.Nat.{ℕ, ◌+◌, ◌≤◌, ◌<◌}
use mathlib.Core.Path.{◌≡◌}
use mathlib.Core.Bool.{true, false}
use mathlib.Core.List.{List}
use native.Mathlib.Numerals.{add-one}
use lib.ListN.{length, drop, get_or, drop_of_length-le}
use Rattle.std.specs.Prelude.{Ok, Err}
use Rattle.format.specs.Byte as B
use Rattle.format.specs.Byte.{has_class}
use Rattle.lexer.specs.declared.register.NoRegister.TheVariants.{Stray, Ended}
use Rattle.lexer.specs.Register.{register_from}
use Rattle.lexer.proofs.Bytes.{byte_at}

module _ (message : List ℕ) (i : ℕ) where
  pub ends : length message ≤ i → register_from i (drop i message) ≡ Err Ended
  unfolding register_from
  ends h = rw (drop_of_length-le message h)

  module _ (h : i < length message) where
    pub strays : has_class B.register (get_or message i 0) ≡ false → register_from i (drop i message) ≡ Err (Stray (record { 0 = i }))
    unfolding register_from
    strays e = rw (byte_at message i h, e)

    pub names : has_class B.register (get_or message i 0) ≡ true → register_from i (drop i message) ≡ Ok (record { name = get_or message i 0; end = record { 0 = i + 1 } })
    unfolding register_from
    names e = rw (byte_at message i h, e, add-one)
