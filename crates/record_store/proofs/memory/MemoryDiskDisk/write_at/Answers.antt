use Rattle.std.proofs.Common.{◌≡◌, ◌≤◌, ℕ, List, [], map, refl, ◌∙◌, ap, length, arith}
use Rattle.record_store.specs.Model.{overlaid}
use Rattle.record_store.specs.MemoryValue.{DiskValue, turned}
use Rattle.record_store.specs.MemoryLayout.{range_of}
use Rattle.record_store.proofs.Written.{turned_map, write_image}
use Rattle.record_store.proofs.memory.MemoryDiskDisk.write_at.Goals as goal

pub invariant_of-self : goal.invariant_of-self
invariant_of-self c =
    let state = c.self.inside.state in
    let inside : c.args.at ≤ length state.seen.items = (let r = c.requires refl in omega (arith, ap (λ (v : DiskValue). length v.time.now.seen) c.self.view_is)) in
    let new_is : c.in-Ok-Ok.new.items ≡ overlaid c.as_slice.result.now c.args.at c.args.bytes.now = rw c.in-Ok-Ok.is-0 at c.overlay-written.ensures in
    record {
      image = write_image state.seen.items c.args.bytes.now c.args.at inside state.synced.items (turned [] (map range_of state.pending.items)) _ c.self.invariant.image
          (ap (λ (l : List _). turned [] (map range_of l)) c.and-self-inside-2.ensures ∙ turned_map range_of state.pending.items _) c.in-Ok-Ok.new.items
          (new_is ∙ ap (λ (l : List ℕ). overlaid l c.args.at c.args.bytes.now) c.as_slice.ensures.value);
    }

pub returns-then-begin-clause-image : goal.returns-then-begin-clause-image
returns-then-begin-clause-image c told =
    let state = c.self.inside.state in
    let inside : c.args.at ≤ length state.seen.items = (let r = c.requires refl in omega (arith, ap (λ (v : DiskValue). length v.time.now.seen) c.self.view_is)) in
    let new_is : c.in-Ok-Ok.new.items ≡ overlaid c.as_slice.result.now c.args.at c.args.bytes.now = rw c.in-Ok-Ok.is-0 at c.overlay-written.ensures in
    write_image state.seen.items c.args.bytes.now c.args.at inside state.synced.items (turned [] (map range_of state.pending.items)) _ c.self.invariant.image
    (ap (λ (l : List _). turned [] (map range_of l)) c.and-self-inside-2.ensures ∙ turned_map range_of state.pending.items _) c.in-Ok-Ok.new.items
    (new_is ∙ ap (λ (l : List ℕ). overlaid l c.args.at c.args.bytes.now) c.as_slice.ensures.value)
