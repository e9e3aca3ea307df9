use Rattle.std.proofs.Common.{rules, ◌∙◌, arith}
use Rattle.std.proofs.lemmas.Grind.{common_steps}
use Rattle.farm_api.proofs.Kept.{read_put, kept_put, unread_put}
use Rattle.farm_api.proofs.public_reader.put_read.Goals as goal

pub returns-in-Ok-clause-puts : goal.returns-in-Ok-clause-puts
returns-in-Ok-clause-puts g c =
    read_put g.J.Naming.start c.args.closing c.args.reader.now c.rows.new.self c.in-Ok.rows.items _ _ c.put_rows.result c.in-Ok.ensures
    (rw c.as_slice.ensures.value at c.put_rows.ensures.writes)

pub returns-in-Err-clause-puts : goal.returns-in-Err-clause-puts
returns-in-Err-clause-puts g c = unread_put g.J.Naming.start c.args.closing c.args.reader.now c.rows.new.self _ c.in-Err.ensures

pub returns-in-Ok-renew-clause-puts : goal.returns-in-Ok-renew-clause-puts
returns-in-Ok-renew-clause-puts g c =
    kept_put g.J.Naming.start c.args.closing c.args.reader.now c.renew.new.reader c.as_slice-in-Ok-renew.result.now _ _ c.put_response.result (search rules)
    c.in-Ok-renew.ensures.reads (c.as_slice-in-Ok-renew.ensures.value ∙ c.in-Ok-renew.ensures.gives) c.put_response.ensures.writes

pub returns-in-Err-renew-clause-puts : goal.returns-in-Err-renew-clause-puts
returns-in-Err-renew-clause-puts g c = unread_put g.J.Naming.start c.args.closing c.args.reader.now c.renew.new.reader _ c.in-Err-renew.ensures.reads

pub returns-in-Ok-clause-kept : goal.returns-in-Ok-clause-kept
returns-in-Ok-clause-kept g c = grind (arith, common_steps)

pub returns-in-Err-clause-kept : goal.returns-in-Err-clause-kept
returns-in-Err-clause-kept g c = grind (arith, common_steps)
