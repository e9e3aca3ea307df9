-- Chains with one more text, and chains whose kept digests are right.
use Rattle.std.proofs.Common.{ℕ, ◌≡◌, ◌+◌, List, [], ◌∷◌, ◌++◌, None, refl, sym, ap, ◌∙◌}
use Rattle.std.specs.List.{zip, position_from}
use Rattle.std.proofs.lemmas.List.{map_push}
use Rattle.std.proofs.lemmas.Slice.Eq.{bytes_eq-Decides}
use Rattle.farm_model.specs.Chain.{first_digest, digest_after, digests_from, chain_digests, head_from, chain_head}
use Rattle.audit_log.specs.Entries.{texts_of, kept_digests, is_broken, first_broken}
use Rattle.audit_log.specs.declared.log.Entry.{Entry}

pub digests_push : (before : List ℕ) (texts : List (List ℕ)) (text : List ℕ) → digests_from before (texts ++ text ∷ []) ≡ digests_from before texts ++ digest_after (head_from before texts) text ∷ []
digests_push before [] text = refl
digests_push before (t ∷ texts) text = ap (λ ds. digest_after before t ∷ ds) (digests_push (digest_after before t) texts text)

pub head_push : (before : List ℕ) (texts : List (List ℕ)) (text : List ℕ) → head_from before (texts ++ text ∷ []) ≡ digest_after (head_from before texts) text
head_push before [] text = refl
head_push before (t ∷ texts) text = head_push (digest_after before t) texts text

-- the digests that are kept with the entries are the chain's, and this is the last one
pub record IsChained (entries : List Entry) (head : List ℕ) : Type 0 where
  pub chained : kept_digests entries ≡ chain_digests (texts_of entries)
  pub last : head ≡ chain_head (texts_of entries)

-- the entry of the text behind this digest
abbrev pub entry_after : List ℕ → List ℕ → Entry
entry_after head text = record { text = text; digest = digest_after head text }

pub chained_push : (entries : List Entry) (head text : List ℕ) → IsChained entries head → IsChained (entries ++ entry_after head text ∷ []) (digest_after head text)
chained_push entries head text h =
    let texts : texts_of (entries ++ entry_after head text ∷ []) ≡ texts_of entries ++ text ∷ [] = map_push (λ (e : Entry). e.text) entries (entry_after head text) in
    let digests : kept_digests (entries ++ entry_after head text ∷ []) ≡ kept_digests entries ++ digest_after head text ∷ [] = map_push (λ (e : Entry). e.digest) entries (entry_after head text) in
    let more = digests_push first_digest (texts_of entries) text in
    let ends = head_push first_digest (texts_of entries) text in
    record {
      chained = digests ∙ (ap (λ ds. ds ++ digest_after head text ∷ []) h.chained ∙ (ap (λ d. chain_digests (texts_of entries) ++ digest_after d text ∷ []) h.last ∙ (sym more ∙ ap chain_digests (sym texts))));
      last = ap (λ d. digest_after d text) h.last ∙ (sym ends ∙ ap chain_head (sym texts));
    }

-- no digest differs from itself
pub none_differs : (ds : List (List ℕ)) (at : ℕ) → position_from is_broken at (zip ds ds) ≡ None
none_differs [] at = refl
none_differs (d ∷ ds) at = rw ((bytes_eq-Decides d d).1 refl) (none_differs ds (at + 1))

pub unbroken : (entries : List Entry) → kept_digests entries ≡ chain_digests (texts_of entries) → first_broken entries ≡ None
unbroken entries h = ap (λ ds. position_from is_broken 0 (zip ds (chain_digests (texts_of entries)))) h ∙ none_differs (chain_digests (texts_of entries)) 0
