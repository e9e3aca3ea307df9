-- A pass may go to another thread, and a board may be shared. The search for this is cut at the larger types, since it
-- does not get through a whole farm at once.
use denote.RattleType.{RattleType}
use denote.Param.Send.{IsSend, IsSync, recorded_send, struct_send, view_send, sendable}
use denote.Struct.Declared as declared
use Rattle.std.proofs.Crossing.{crosses}
use Rattle.std.specs.contracts.alloc.Global as global
use Rattle.std.specs.contracts.boxed.Box as boxed
use Rattle.std.specs.contracts.impls.GlobalAllocator.TheImpl as allocator
use Rattle.std.specs.contracts.option.Option as option
use Rattle.std.specs.contracts.snapshot.Snapshot as snapshot
use Rattle.atomic_table.proofs.shared.Seat.TheSendSync as seat
use Rattle.atomic_table.proofs.shared.Shared.TheSendSync as shared
use Rattle.atomic_table.proofs.send_lease.SendLease.TheSendSync as lease
use Rattle.farm_kinds.specs.contracts.names.Name as name
use Rattle.farm_kinds.specs.contracts.lists.Numbers as numbers
use Rattle.farm_kinds.specs.contracts.lists.Answers as answers
use Rattle.farm_kinds.specs.contracts.lists.MatrixRows as rows
use Rattle.farm_kinds.specs.contracts.events.Event as event
use Rattle.farm_kinds.specs.contracts.events.Reply as reply
use Rattle.lease_tree.proofs.node.Tree.TheLaws.TheKnot as knot
use Rattle.lease_tree.specs.contracts.tree.LeaseTree as tree
use Rattle.lease_book.proofs.held.Held.TheSendSync as held
use Rattle.lease_book.specs.contracts.book.LeaseBook as book
use Rattle.judging_core.specs.contracts.judge.Judge as judge
use Rattle.farm_core.specs.contracts.names.Names as names
use Rattle.farm_core.specs.contracts.contest.ContestState as contest
use Rattle.farm_core.specs.contracts.farm.Farm as farm
use Rattle.atomic_table.specs.declared.shared.TableRule.{Ghosts as RuleGhosts}
use Rattle.farm_board.specs.declared.trust.Admission.{Ghosts}
use Rattle.farm_board.specs.declared.trust.Trust.{Ghosts as TrustGhosts}
use Rattle.farm_board.specs.contracts.board.BoardOf as board
use Rattle.farm_board.specs.contracts.board.PassOf as pass
use Rattle.farm_board.specs.contracts.contents.Contents as contents
use Rattle.farm_board.specs.contracts.contents.Contents.TheInside as inside
use Rattle.farm_board.specs.contracts.entries.Call as call
use Rattle.farm_board.specs.contracts.entries.CallJournal as history
use Rattle.farm_board.specs.contracts.contents.TrustedContents as trusted
use Rattle.farm_board.specs.contracts.rule.BoardRule as rule
use Rattle.farm_board.specs.contracts.rule.BoardRuleTableRuleSlotViewSnapshotContents.TheImpl as rules
use Rattle.farm_board.specs.contracts.view.View as view

tree_send : IsSend tree.the_row
tree_send = search (sendable, crosses, knot.crosses) depth 60 fits 100000

book_send : IsSend book.the_row
book_send = search (sendable, crosses, tree_send, held.the_send) depth 60 fits 100000

judge_send : IsSend judge.the_row
judge_send = search (sendable, crosses, book_send) depth 60 fits 100000

names_send : IsSend names.the_row
names_send = search (sendable, crosses) depth 60 fits 100000

contest_send : IsSend contest.the_row
contest_send = search (sendable, crosses, judge_send, names_send) depth 60 fits 100000

farm_send : IsSend farm.the_row
farm_send = search (sendable, crosses, contest_send) depth 60 fits 100000

farm_in_box_send : IsSend (boxed.the_field farm.the_row global.the_row allocator.ghosts).row
farm_in_box_send = search (sendable, crosses, farm_send) depth 60 fits 100000

name_send : IsSend name.the_row
name_send = search (sendable, crosses) depth 60 fits 100000

numbers_send : IsSend numbers.the_row
numbers_send = search (sendable, crosses) depth 60 fits 100000

answers_send : IsSend answers.the_row
answers_send = search (sendable, crosses) depth 60 fits 100000

rows_send : IsSend rows.the_row
rows_send = search (sendable, crosses) depth 60 fits 100000

event_send : IsSend (event.the_field).row
event_send = search (sendable, crosses, name_send, numbers_send) depth 60 fits 100000

reply_send : IsSend (reply.the_field).row
reply_send = search (sendable, crosses, name_send, answers_send, rows_send) depth 60 fits 100000

call_send : IsSend call.the_row
call_send = recorded_send _ _ _ (call.the_type).to_one (struct_send (declared.shape call.the_type) (search sendable, (event_send, (reply_send, tt))))

history_send : IsSend history.the_row
history_send = search (sendable, crosses, call_send) depth 60 fits 100000

journal_send : IsSend (option.the_field history.the_row).row
journal_send = search (sendable, crosses, history_send) depth 60 fits 100000

inside_send : IsSend inside.the_row
inside_send = recorded_send _ _ _ (inside.the_type).to_one (struct_send (declared.shape inside.the_type)
    (farm_in_box_send, (search sendable, (search (sendable, crosses) depth 60, (search sendable, (journal_send, tt))))))

contents_send : IsSend contents.the_row
contents_send = view_send inside.the_row _ _ _ _ inside_send

trusted_send : (A : RattleType) (g : Ghosts A.Denot) → IsSend A → IsSend (trusted.the_row A g)
trusted_send A g a = search (sendable, crosses, contents_send) depth 60 fits 100000

slot_row : (T : RattleType) → IsSend T → IsSend (option.the_row T)
slot_row T t = search (sendable, crosses) depth 60 fits 100000

-- what lies in the slot of a board's table
pub slot_send : (A : RattleType) (g : Ghosts A.Denot) → IsSend A → IsSend (option.the_row (trusted.the_row A g))
slot_send A g a = slot_row (trusted.the_row A g) (trusted_send A g a)

pub pass_send : (S : RattleType) → IsSend S → IsSend (pass.the_row S)
pass_send S s = search (sendable, crosses, seat.the_send) depth 60 fits 100000

pub pass_sends : (A : RattleType) (g : Ghosts A.Denot) → IsSend A → IsSend (pass.the_row (option.the_row (trusted.the_row A g)))
pass_sends A g a = pass_send (option.the_row (trusted.the_row A g)) (slot_send A g a)

board_shared : (R A S K P : RattleType) (t : TrustGhosts R.Denot) (g : Ghosts A.Denot) (p : RuleGhosts P.Denot S.Denot (view.the_row).Denot K.Denot)
    → IsSync R → IsSync A → IsSend S → IsSync (board.the_row R A S K P t g p)
board_shared R A S K P t g p r a s = search (sendable, crosses, shared.the_sync, lease.the_sync) depth 60 fits 100000

pub board_sync : (R A : RattleType) (t : TrustGhosts R.Denot) (g : Ghosts A.Denot) → IsSync R → IsSync A → IsSend A
    → IsSync (board.the_row R A (option.the_row (trusted.the_row A g)) (snapshot.the_row contents.the_row) (rule.the_row A) t g (rules.ghosts A g rules.no_dict))
board_sync R A t g r y s =
    board_shared R A (option.the_row (trusted.the_row A g)) (snapshot.the_row contents.the_row) (rule.the_row A) t g (rules.ghosts A g rules.no_dict) r y (slot_send A g s)
