-- The walk goes on, step by step.
use Prim.Native.Nat.{ℕ}
use mathlib.Core.Path.{◌≡◌, refl, ap, sym, ◌∙◌}
use mathlib.Core.Bool.{false}
use mathlib.Core.List.{List}
use lib.ListN.{length}
use lib.Seq.{length-sets}
use Rattle.std.specs.Prelude.{Option, Some, None, is_some}
use Rattle.format.specs.declared.Row.{Row}
use Rattle.leaves.specs.declared.output.Output.{Output}
use Rattle.leaves.specs.Outputs.{HasRoom}
use Rattle.text.specs.declared.walk.Walk.{Walk}
use Rattle.text.specs.Walk.{pending, Falling, coming_next, ReadyNext}
use Rattle.text.specs.Way.{frames, GoneOn}
use Rattle.text.proofs.Partly.{part_none, part_then, part_room}

pub no_row : (next : Option Row) → is_some next ≡ false → next ≡ None
no_row None e = refl
no_row (Some row) e = cc

-- not yet
pub gone_none : (w : Walk) (o : Output) → Falling w.table (frames w) → GoneOn w o (pending w.table (frames w)) w o None
unfolding ReadyNext coming_next
gone_none w o f = record { same = record { table = refl; stack = refl; output = refl }; ready = f; part = part_none _ _ _ }

module _ {w : Walk} {o : Output} {text : List ℕ} {w' : Walk} {o' : Output} {next : Option Row} (g : GoneOn w o text w' o' next) where
  pub same-length : length o'.bytes.now ≡ length o.bytes.now
  same-length =
      sym (length-sets o'.bytes.now o'.at (coming_next w.table next (frames w'))) ∙ (ap length g.part.bytes ∙ length-sets o.bytes.now o.at text)

  -- it can go on from there
  pub ready_there : ReadyNext w'.table next (frames w')
  ready_there = rw g.same.table g.ready

  pub room-there : HasRoom o text → HasRoom o' (coming_next w'.table next (frames w'))
  room-there h = rw g.same.table (part_room o.bytes.now o.at text g.part same-length h)

  pub gone-then : {w'' : Walk} {o'' : Output} {next'' : Option Row} → GoneOn w' o' (coming_next w'.table next (frames w')) w'' o'' next''
      → GoneOn w o text w'' o'' next''
  gone-then f = record {
    same = record { table = f.same.table ∙ g.same.table; stack = f.same.stack ∙ g.same.stack; output = f.same.output ∙ g.same.output };
    ready = rw g.same.table at f.ready;
    part = part_then o.bytes.now o.at text g.part (rw g.same.table at f.part);
  }
