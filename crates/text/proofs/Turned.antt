-- How the walk has gone on, by what it leaves on the stack and in the output.
use Prim.Native.Nat.{ℕ, ◌+◌, ◌<◌}
use mathlib.Core.Path.{◌≡◌}
use mathlib.Core.List.{List, ◌∷◌}
use native.Mathlib.Numerals.{add-one}
use lib.ListN.{length, set}
use Rattle.std.specs.Prelude.{Option, Some, None}
use Rattle.format.specs.declared.Row.{Row}
use Rattle.table.specs.Words.{last_first}
use Rattle.table.proofs.Rows.{pushed}
use Rattle.text.specs.declared.rows.SoundRows.{SoundRows}
use Rattle.text.specs.Walk.{pending, coming, Above, Falling, coming_next, ReadyNext, Partly}

-- part of a text is stored, and the rest of it is that of the row that comes next, if one does, and of so many frames
abbrev pub Turned : SoundRows → List ℕ → ℕ → List ℕ → List ℕ → List ℕ → Option Row → ℕ → ℕ → Type 0
Turned t output₀ at₀ text stack output next depth at = record {
  ready : ReadyNext t next (last_first stack depth);
  part : Partly output₀ at₀ text output at (coming_next t next (last_first stack depth));
}

module _ (t : SoundRows) {output₀ : List ℕ} {at₀ : ℕ} {text output : List ℕ} {at : ℕ} (stack : List ℕ) (depth : ℕ) where
  -- no row comes next
  pub turned-done : Falling t (last_first stack depth) → Partly output₀ at₀ text output at (pending t (last_first stack depth))
      → Turned t output₀ at₀ text stack output None depth at
  unfolding ReadyNext coming_next
  turned-done f p = record { ready = f; part = p }

  -- a row comes next, above the frame e, which is put on the stack
  pub turned-above : {row e : ℕ} → depth < length stack → Above t row (e ∷ last_first stack depth)
      → Partly output₀ at₀ text output at (coming t row (e ∷ last_first stack depth))
      → Turned t output₀ at₀ text (set stack depth e) output (Some (record { 0 = row })) (depth + 1) at
  unfolding ReadyNext coming_next
  turned-above {e = e} h a p =
      let stacked : last_first (set stack depth e) (depth + 1) ≡ e ∷ last_first stack depth = rw add-one (pushed stack depth e h) in
      record { ready = rw stacked a; part = rw stacked p }
