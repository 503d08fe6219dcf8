-- The walk from the root to the end stores the plain text.
use Prim.Native.Nat.{ℕ, ◌+◌, ◌-◌, ◌≤◌, ◌<◌}
use Prim.Native.Char.{code}
use mathlib.Core.Path.{◌≡◌, refl, ◌∙◌}
use mathlib.Core.List.{List, [], ◌∷◌, ◌++◌}
use native.Mathlib.Nat.{zero-add}
use native.Mathlib.Omega.{arith}
use lib.ListN.{length, drop, set}
use lib.Seq.{sets-eq}
use Rattle.std.specs.Prelude.{Option, Some, None}
use Rattle.format.specs.Text.{plain}
use Rattle.format.specs.declared.Row.{Row}
use Rattle.table.specs.Words.{last_first}
use Rattle.leaves.specs.declared.output.Output.{Output}
use Rattle.leaves.specs.Outputs.{HasRoom}
use Rattle.text.specs.declared.walk.Walk.{Walk}
use Rattle.text.specs.Rows.{root_text}
use Rattle.text.specs.Walk.{pending, coming, Above, Falling, coming_next, ReadyNext}
use Rattle.text.specs.Way.{frames, GoneOn}
use Rattle.text.proofs.Partly.{part_none}
use Rattle.text.proofs.Passes.{same-length, ready_there, room-there, gone-then}

-- no frame lies on the stack at first, and the root comes next
pub begins : (w : Walk) (o : Output) → w.depth ≡ 0 → GoneOn w o (root_text w.table) w o (Some w.table.root)
unfolding plain pending last_first coming_next ReadyNext
begins w o e = record { same = record { table = refl; stack = refl; output = refl }; ready = rw e w.table.among; part = rw e (part_none _ _ _) }

module _ {w : Walk} {o : Output} {text : List ℕ} {w' : Walk} {o' : Output} {next : Option Row} (g : GoneOn w o text w' o' next) (room : HasRoom o text) where
  -- a row comes next
  module _ {row : Row} (some : next ≡ Some row) where
    pub above-next : Above w'.table row.0 (frames w')
    unfolding ReadyNext
    above-next = rw some at (ready_there g)

    text-next : coming_next w'.table next (frames w') ≡ coming w'.table row.0 (frames w')
    unfolding coming_next
    text-next = rw some

    pub room-next : HasRoom o' (coming w'.table row.0 (frames w'))
    room-next = rw text-next at (room-there g room)

    -- its first leaf is stored, and then what comes after it
    module _ {w'' : Walk} {o'' : Output} (first : GoneOn w' o' (coming w'.table row.0 (frames w')) w'' o'' None) where
      on : GoneOn w o text w'' o'' None
      on = gone-then g (rw text-next first)

      pub falling-next : Falling w''.table (frames w'')
      unfolding ReadyNext
      falling-next = ready_there first

      pub room-after : HasRoom o'' (pending w''.table (frames w''))
      unfolding coming_next
      room-after = room-there on room

      module _ {w₃ : Walk} {o₃ : Output} {next₃ : Option Row} (rest : GoneOn w'' o'' (pending w''.table (frames w'')) w₃ o₃ next₃) where
        pub goes_on : GoneOn w o text w₃ o₃ next₃
        unfolding coming_next
        goes_on = gone-then on rest

        pub shorter : o'.at < o''.at → length o.bytes.now - o₃.at < length o.bytes.now - o'.at
        shorter h = omega (arith, h, rest.part.onward, goes_on.part.count, room)

-- only `$` is left, in the output as the walk leaves it
module _ {w : Walk} {o : Output} {text : List ℕ} {w' : Walk} {o' : Output} (g : GoneOn w o text w' o' None) (room : HasRoom o text) (whole : w'.depth ≡ 0)
    {out : List ℕ} (is : out ≡ o'.bytes.now) where
  end : coming_next w.table None (frames w') ≡ code "$" ∷ []
  unfolding coming_next last_first pending
  end = rw whole

  pub last-place : o'.at < length out
  last-place = let part = rw end at g.part in rw is (omega (arith, part.count, same-length g))

  pub all_stored : o.at ≡ 0 → (set out o'.at (code "$") ≡ text ++ drop (o'.at + 1) o.bytes.now) × (o'.at + 1 ≡ length text)
  all_stored e =
      let part = rw (end, e) at g.part in
      let count : o'.at + 1 ≡ length text = omega (arith, part.count) in
      let fits : 0 + length text ≤ length o.bytes.now = omega arith in
      (rw is (part.bytes ∙ rw count (sets-eq text o.bytes.now 0 fits ∙ rw zero-add)), count)
