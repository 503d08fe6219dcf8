-- Bytes stored into an output one after another.
use Rattle.std.specs.Prelude.{ℕ, ◌+◌, ◌≤◌, ◌≡◌, List, length}
use Rattle.std.proofs.lemmas.List.Edits.{sets}
use Rattle.leaves.specs.declared.output.Output.{Output}

-- the output has room for these bytes
abbrev pub HasRoom : Output → List ℕ → Type 0
HasRoom o x = o.at + length x ≤ length o.bytes.now

-- these bytes are stored in the same memory, and the next one goes after them
abbrev pub Wrote : Output → List ℕ → Output → Type 0
Wrote o x o' = record {
  same : o'.bytes.ghost_name ≡ o.bytes.ghost_name;
  bytes : o'.bytes.now ≡ sets o.bytes.now o.at x;
  at : o'.at ≡ o.at + length x;
}
