-- The register byte after `>`.
use Rattle.std.specs.Prelude.{ℕ, suc, cond, List, [], ◌∷◌, Result, Ok, Err}
use Rattle.format.specs.Byte as B
use Rattle.format.specs.Byte.{has_class}
use Rattle.lexer.specs.declared.register.Register.{Register}
use Rattle.lexer.specs.declared.register.NoRegister.{NoRegister}
use Rattle.lexer.specs.declared.register.NoRegister.TheVariants.{Stray, Ended}

-- a byte of class register, at once
unfoldable pub register_from : ℕ → List ℕ → Result Register NoRegister
register_from p [] = Err Ended
register_from p (c ∷ r) = cond (has_class B.register c) (Ok (record { name = c; end = record { 0 = suc p } })) (Err (Stray (record { 0 = p })))
