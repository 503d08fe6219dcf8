-- Where the bytes read lie, for the function that reads.
use Rattle.std.specs.Prelude.{ℕ, ◌≤◌, Result, IfOk}
use Rattle.ubfa_text.specs.declared.input.InputError.{InputError}

-- the bytes of an input lie in a buffer of so many
abbrev pub InBuffer : Result ℕ InputError → ℕ → Type 0
InBuffer input most = IfOk input (λ n. n ≤ most)
