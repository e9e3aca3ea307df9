use Rattle.std.proofs.Common.{rules, ◌∙◌, sym}
use Rattle.std.proofs.lemmas.Bool.{false≢true}
use Rattle.serde_json.specs.View.{view}
use Rattle.wire_json.proofs.Texts.{object_read, text_refused}
use Rattle.wire_json.proofs.reading.object_of.Goals as goal

pub returns-then-is_empty-clause-not_json : goal.returns-then-is_empty-clause-not_json
returns-then-is_empty-clause-not_json c = search rules

pub returns-then-is_object-clause-ok : goal.returns-then-is_object-clause-ok
returns-then-is_object-clause-ok c =
    object_read c.args.bytes.now (view c.in-Ok.value) (sym c.is_empty.ensures ∙ c.if-is_empty.false) c.in-Ok.ensures.ok.0 c.in-Ok.ensures.ok.1 (sym c.is_object.ensures ∙ c.if-is_object.true)

pub returns-else-is_memory-clause-not_json : goal.returns-else-is_memory-clause-not_json
returns-else-is_memory-clause-not_json c =
    λ _. text_refused c.args.bytes.now (sym c.is_empty.ensures ∙ c.if-is_empty.false) (c.in-Err.ensures.err (λ m. false≢true (sym c.if-is_memory.false ∙ c.is_memory.ensures.1 m)))
