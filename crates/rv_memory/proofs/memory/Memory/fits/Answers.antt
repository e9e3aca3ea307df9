use Rattle.std.proofs.Common.{◌≡◌, ◌+◌, ◌/◌, false, true, length, arith}
use Rattle.rv_memory.specs.Paged.{is_touched, touch_pages}
use Rattle.rv_memory.proofs.Ranges.{length-touch_pages}
use Rattle.rv_memory.proofs.memory.Memory.fits.Goals as goal
use Rattle.rv_memory.proofs.memory.Memory.fits.Goals.{then-not-has_page, else-not-has_page}

pub loop-k-preserved : goal.loop-k-preserved
loop-k-preserved c =
    let s = c.args.self.now in
    let p = c.args.at / 4096 in
    let more = length-touch_pages s p c.loop-k.k in
    elim c.if-not-has_page.branch [
      | then-not-has_page w ↦
          let new : is_touched s (p + c.loop-k.k) ≡ false = grind arith in
          let e : length (touch_pages s p (c.loop-k.k + 1)).pages ≡ length (touch_pages s p c.loop-k.k).pages + 1 = rw new at more in
          record { bound = omega arith; counted = omega (arith, e) }
      | else-not-has_page w ↦
          let old : is_touched s (p + c.loop-k.k) ≡ true = grind arith in
          let e : length (touch_pages s p (c.loop-k.k + 1)).pages ≡ length (touch_pages s p c.loop-k.k).pages + 0 = rw old at more in
          record { bound = omega arith; counted = omega (arith, e) }
    ]
