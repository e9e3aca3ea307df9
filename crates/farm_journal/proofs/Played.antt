-- What the event of a line does, where the line is what is written of it.
use Rattle.std.specs.Prelude.{not}
use Rattle.std.proofs.Common.{◌≡◌, ◌≢◌, ℕ, Bool, true, false, ◌&&◌, List, Option, Some, None, Ok, refl, sym, ◌∙◌, ap, if◌then◌else◌}
use Rattle.std.specs.Str.{bytes_eq}
use Rattle.std.proofs.lemmas.Bool.{false_from_ne_true}
use Rattle.std.proofs.lemmas.Slice.Eq.{bytes_eq-Decides}
use Rattle.farm_kinds.specs.declared.events.Event.{Event}
use Rattle.farm_kinds.specs.declared.events.Reply.{Reply}
use Rattle.farm_kinds.specs.declared.events.Reply.TheVariants as reply
use Rattle.farm_model.specs.State.{State}
use Rattle.farm_model.specs.Farm.{farm_step, Stepped}
use Rattle.farm_model.specs.Replay.{reply_to}
use Rattle.farm_model.specs.Texts.{event_text}
use Rattle.stored_events.specs.Kept.{is_kept}
use Rattle.stored_events.specs.Opening.{stored_read}

pub not_other : (b : Bool) → false ≡ not b → b ≡ true
not_other true is = refl
not_other false is = is

pub same_text : (text line : List ℕ) → bytes_eq text line ≡ true → text ≡ line
same_text text line is = (bytes_eq-Decides text line).0 is

-- the event is stored, or not, as its reply says
pub played : (s : State) (e : Event) (line text : List ℕ) (new : State) (r : Reply) (kept : Bool) → text ≡ event_text e → text ≡ line → Stepped s e new r → r ≢ reply.NoMemory → kept ≡ is_kept e r
    → ((kept ≡ true → stored_read s line (Ok (Some e)) ≡ Some new) × (kept ≡ false → stored_read s line (Ok (Some e)) ≡ None))
played s e line text new r kept written same stepped some is =
    let state : new ≡ (farm_step s e).0 = stepped.state some in
    let replied : r ≡ reply_to s e = stepped.answer some in
    let bytes : bytes_eq (event_text e) line ≡ true = (bytes_eq-Decides (event_text e) line).1 (sym written ∙ same) in
    let kept_is : is_kept e (reply_to s e) ≡ kept = ap (λ (x : Reply). is_kept e x) (sym replied) ∙ sym is in
    let whole : stored_read s line (Ok (Some e)) ≡ (if kept then Some (farm_step s e).0 else None) =
    ap (λ (b : Bool). if b && is_kept e (reply_to s e) then Some (farm_step s e).0 else None) bytes
    ∙ ap (λ (b : Bool). if true && b then Some (farm_step s e).0 else None) kept_is in (
      λ yes_kept. whole ∙ ap (λ (b : Bool). if b then Some (farm_step s e).0 else None) yes_kept ∙ ap (λ (x : State). Some x) (sym state),
      λ not_so. whole ∙ ap (λ (b : Bool). if b then Some (farm_step s e).0 else None) not_so,
    )

-- a line that is not what is written of its event is none
pub other_text : (s : State) (e : Event) (line text : List ℕ) → text ≡ event_text e → text ≢ line → stored_read s line (Ok (Some e)) ≡ None
other_text s e line text written other =
    let bytes : bytes_eq (event_text e) line ≡ false = false_from_ne_true (bytes_eq (event_text e) line) (λ same. other (written ∙ (bytes_eq-Decides (event_text e) line).0 same)) in
    ap (λ (b : Bool). if b && is_kept e (reply_to s e) then Some (farm_step s e).0 else None) bytes
