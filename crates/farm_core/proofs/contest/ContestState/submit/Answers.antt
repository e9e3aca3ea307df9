use Rattle.std.proofs.Common.{◌≡◌, ◌<◌, Some, arith, sym, ap, ◌∙◌, length}
use Rattle.std.specs.List.{position}
use Rattle.std.specs.Str.{bytes_eq}
use Rattle.farm_core.proofs.Submits.{submit_stepped}
use Rattle.farm_core.proofs.contest.ContestState.submit.Goals as goal

pub returns : goal.returns
returns c =
    let before = c.self.view_is in
    let after = c.self-2.view_is in
    let found : position (λ problem. bytes_eq problem.name c.args.problem) c.args.self.now.problems ≡ Some c.in-Some.place = sym c.problem_place.ensures.place ∙ c.in-Some.is in
    let kept : length c.self.inside.submissions.items ≡ length c.args.self.now.submissions = ap (λ s. length s.submissions) before in
    let few : length c.args.self.now.submissions < 100000 = omega (arith, kept, c.self.inside.submissions.ok.0, c.len.ensures, c.if-len.false) in
    let judged : length c.self.inside.judge.state.judgings ≡ length c.args.self.now.judge.judgings = ap (λ s. length s.judge.judgings) before in
    let room : length c.args.self.now.judge.judgings < 400000 = omega (arith, judged, c.judgings.ensures, c.if-judgings.false) in
    let many : length c.self-2.inside.submissions.items ≡ length c.add_submission.new.self.submissions = ap (λ s. length s.submissions) after in
    let number : c.len-submission.result ≡ length c.add_submission.new.self.submissions = omega (arith, many, c.self-2.inside.submissions.ok.0, c.len-submission.ensures) in
    submit_stepped c.args.self.now c.args.problem c.args.class c.args.broken c.in-Some.place c.add_submission.new.self c.len-submission.result c.in-Ok.judging
    found few room c.in-Ok.ensures.added number c.in-Ok.ensures.number
