use Rattle.std.proofs.Common.{Err, ap}
use Rattle.farm_api.proofs.Turning.{turned_request_on, turned_end_on, bytes_beside, faults_beside, cause_request, cause_end}
use Rattle.farm_api.proofs.serving.serve_request.Goals as goal

pub returns-in-Ok-clause-turned : goal.returns-in-Ok-clause-turned
returns-in-Ok-clause-turned g c =
    let e = c.next_request.ensures in
    let conn = c.args.conn.now in
    let mid = c.next_request.new.source in
    let new = c.answer_one.new.sink in
    turned_request_on g.A.Replier.steps _ _ _ (g.N.Source.left conn) (g.N.Source.left mid) (g.N.Source.left new) (g.N.Sink.held conn) (g.N.Sink.held mid) (g.N.Sink.held new) _ _ c.in-Ok.head c.body.result.now _
    (bytes_beside g.N.Sink.beside g.N.Source.left g.N.Source.faults mid new c.requires.sink c.answer_one.ensures.beside)
    (bytes_beside g.N.Source.beside g.N.Sink.held g.N.Sink.faults conn mid c.requires.source e.beside)
    c.body.ensures c.in-Ok.ensures.reads (c.answer_one.ensures.puts g.N.Peer.asks c.is_asked_to_close-closing.ensures)

pub returns-in-Ok-clause-cause : goal.returns-in-Ok-clause-cause
returns-in-Ok-clause-cause g c =
    let e = c.next_request.ensures in
    let conn = c.args.conn.now in
    let mid = c.next_request.new.source in
    let new = c.answer_one.new.sink in
    cause_request g.A.Replier.steps _ _ _ _ _ _ c.answer_one.result (g.N.Source.faults conn) (g.N.Source.faults mid) (g.N.Source.faults new) (g.N.Sink.faults conn) (g.N.Sink.faults mid) (g.N.Sink.faults new)
    (c.answer_one.ensures.puts g.N.Peer.asks c.is_asked_to_close-closing.ensures) (c.in-Ok.ensures.cause.kept (λ q. cc) (λ q. cc))
    (faults_beside g.N.Sink.beside g.N.Source.left g.N.Source.faults mid new c.requires.sink c.answer_one.ensures.beside)
    (faults_beside g.N.Source.beside g.N.Sink.held g.N.Sink.faults conn mid c.requires.source e.beside)
    c.answer_one.ensures.later c.answer_one.ensures.write c.answer_one.ensures.kept

pub returns-in-Err-clause-turned : goal.returns-in-Err-clause-turned
returns-in-Err-clause-turned g c =
    let e = c.next_request.ensures in
    let conn = c.args.conn.now in
    let mid = c.next_request.new.source in
    let new = c.end_with.new.sink in
    turned_end_on g.A.Replier.steps _ _ (g.N.Source.left conn) (g.N.Source.left mid) (g.N.Source.left new) (g.N.Sink.held conn) (g.N.Sink.held mid) (g.N.Sink.held new) _ _ c.in-Err.ending c.end_with.result
    (bytes_beside g.N.Sink.beside g.N.Source.left g.N.Source.faults mid new c.requires.sink c.end_with.ensures.beside)
    (bytes_beside g.N.Source.beside g.N.Sink.held g.N.Sink.faults conn mid c.requires.source e.beside)
    c.requires.going c.in-Err.ensures.reads c.in-Err.ensures.ends e.ended (λ f. c.in-Err.ensures.limit (ap Err f) c.requires.going) c.end_with.ensures.puts

pub returns-in-Err-clause-cause : goal.returns-in-Err-clause-cause
returns-in-Err-clause-cause g c =
    let e = c.next_request.ensures in
    let conn = c.args.conn.now in
    let mid = c.next_request.new.source in
    let new = c.end_with.new.sink in
    cause_end _ _ c.in-Err.ending c.end_with.result _ (g.N.Source.faults conn) (g.N.Source.faults mid) (g.N.Source.faults new) (g.N.Sink.faults conn) (g.N.Sink.faults mid) (g.N.Sink.faults new)
    c.end_with.ensures.puts c.requires.going c.in-Err.ensures.cause
    (faults_beside g.N.Sink.beside g.N.Source.left g.N.Source.faults mid new c.requires.sink c.end_with.ensures.beside)
    (faults_beside g.N.Source.beside g.N.Sink.held g.N.Sink.faults conn mid c.requires.source e.beside)
    c.end_with.ensures.later c.end_with.ensures.write c.end_with.ensures.kept
