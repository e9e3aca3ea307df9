use Rattle.record_store.proofs.Prefixes.{pushed_record}
use Rattle.record_store.proofs.records.push_record.Goals as goal

pub returns-else-is_err-clause-ok : goal.returns-else-is_err-clause-ok
returns-else-is_err-clause-ok c lines is = pushed_record c.push_parts-pushed.result lines c.args.line.now c.args.batch.now.items c.push_parts-pushed.new.batch.items is c.push_parts-pushed.ensures.ok
