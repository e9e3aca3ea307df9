-- A connection of which nothing was read.
use Rattle.std.proofs.Common.{◌≡◌, ℕ, List, Option, Some, inl, inr, sym, ap, ◌∙◌, subst, arith}
use Rattle.farm_kinds.specs.declared.outcomes.Answer.{Answer}
use Rattle.farm_board.specs.Passes.{PassValue}
use Rattle.public_board.specs.Values.{nobody}
use Rattle.farm_api.specs.declared.ends.ConnEnd.{ConnEnd}
use Rattle.farm_api.specs.declared.ends.ConnHow.{ConnHow}
use Rattle.farm_api.specs.declared.ends.ConnHow.TheVariants as how
use Rattle.farm_api.specs.LaneCalls.{AccessValue, access, LaneSteps, LaneMakes}
use Rattle.farm_api.specs.Serving.{untaken, IsServed}
use Rattle.farm_api.proofs.Turning.{served_none}
use Rattle.farm_api.proofs.LaneLemmas.{served_lane}
use Rattle.contest_server.specs.Visits.{Watch, visit, IsAnswered}

abbrev unread_end : ConnEnd
unread_end = record { requests = 0; how = how.NoMemory }

pub unread : {N : Type 0} (w : Watch N) (came back : N) (pass : PassValue) (e : ConnEnd) → w.left back ≡ w.left came → w.held back ≡ w.held came → w.reads back ≡ w.reads came → w.writes back ≡ w.writes came → e ≡ unread_end
    → IsAnswered w (visit came back pass pass e.requests e.how)
unread {N} w came back pass e left held reads writes is =
    let own : AccessValue = access pass (nobody {R = Answer}) in
    let how_is : e.how ≡ how.NoMemory = ap (λ (z : ConnEnd). z.how) is in
    record {
      before = nobody {R = Answer};
      behind = nobody {R = Answer};
      served = subst (λ (z : Option (List ℕ) × Option (List ℕ) × ConnEnd). IsServed (LaneMakes w.start) w.around (untaken own (w.left came) (w.held came)) (untaken own z.0 z.1) z.2.requests z.2.how)
          (λ i. (sym left i, sym held i, sym is i))
          (served_lane w.start w.around (untaken own (w.left came) (w.held came)) (untaken own (w.left came) (w.held came)) 0 how.NoMemory
          (served_none (LaneSteps w.start) w.around own (w.left came) (w.held came)));
      cause = record {
        read_later = omega (arith, reads);
        write_later = omega (arith, writes);
        read_failed = λ q. absurd (let both : Some how.NoMemory ≡ Some how.ReadFault = sym (ap (λ (h : ConnHow). Some h) how_is) ∙ q in cc both);
        write_failed = λ q. absurd (let both : Some how.NoMemory ≡ Some how.WriteFault = sym (ap (λ (h : ConnHow). Some h) how_is) ∙ q in cc both);
        read_kept = λ _ _ _. reads;
        write_kept = λ _. writes;
      };
      complete = λ bytes rs told sound r s. inr (inl how_is);
    }
