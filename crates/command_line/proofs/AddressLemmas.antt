-- What std's parser of addresses gives is what the definition computes.
use Rattle.std.proofs.Common.{◌≡◌, ℕ, List, [], ◌∷◌, Option, Some, None, Result, Ok, Err, option_map, refl, sym, ap, ◌∙◌, subst, append-nil, lit≤, length, ne_eqb, arith}
use Rattle.std.specs.Result.{result_ok}
use Rattle.std.specs.Option.{option_or}
use Rattle.std.specs.declared.net.ip_addr.IpAddr.{IpAddr}
use Rattle.std.specs.declared.net.ip_addr.IpAddr.TheVariants as Ip
use Rattle.std.specs.Net.Grammar.{Parses, IsDotted, IsColonHex, IsIpText}
use Rattle.std.specs.Net.Reader.{Read, read_ipv4, read_ipv6, whole_value}
use Rattle.std.proofs.NetLemmas.Ipv4.{read_ipv4_sound, read_ipv4_complete}
use Rattle.std.proofs.NetLemmas.Ipv6.{read_ipv6_sound, read_ipv6_complete, EndsGroups-nil, IsDotted-not_colon_hex}
use Rattle.command_line.specs.Addresses.{address_of, ipv4, ipv6}

-- ---- the reader of a whole text

part_left : {A : Type 0} (value : A) (rest : List ℕ) → (rest ≡ [] → ⊥) → whole_value (Some (value, rest)) ≡ None
part_left value [] left = absurd (left refl)
part_left value (c ∷ rest) left = rw (ne_eqb (length (c ∷ rest)) 0 (omega arith)) refl

not_whole : {A : Type 0} (read : Read A) → ((value : A) → read ≡ Some (value, []) → ⊥) → whole_value read ≡ None
not_whole None never = refl
not_whole (Some p) never = part_left p.0 p.1 (λ none. never p.0 (ap (λ rest. Some (p.0, rest)) none))

-- ---- the two kinds of address

dotted_read : (text octets : List ℕ) → IsDotted text octets → read_ipv4 text ≡ Some (octets, [])
dotted_read text octets spells = rw append-nil at (read_ipv4_complete text octets [] spells (lit≤ tt))

colon_hex_read : (text segments : List ℕ) → IsColonHex text segments → read_ipv6 text ≡ Some (segments, [])
colon_hex_read text segments spells = rw append-nil at (read_ipv6_complete text segments [] spells EndsGroups-nil)

read_dotted : (text octets : List ℕ) → read_ipv4 text ≡ Some (octets, []) → IsDotted text octets
read_dotted text octets read =
    let (prefix, split, spells) = read_ipv4_sound text octets [] read in
    subst (λ t. IsDotted t octets) (sym (split ∙ append-nil prefix)) spells

read_colon_hex : (text segments : List ℕ) → read_ipv6 text ≡ Some (segments, []) → IsColonHex text segments
read_colon_hex text segments read =
    let (prefix, split, spells) = read_ipv6_sound text segments [] read in
    subst (λ t. IsColonHex t segments) (sym (split ∙ append-nil prefix)) spells

no_dotted : (text : List ℕ) → ((octets : List ℕ) → IsDotted text octets → ⊥) → whole_value (read_ipv4 text) ≡ None
no_dotted text never = not_whole (read_ipv4 text) (λ octets read. never octets (read_dotted text octets read))

no_colon_hex : (text : List ℕ) → ((segments : List ℕ) → IsColonHex text segments → ⊥) → whole_value (read_ipv6 text) ≡ None
no_colon_hex text never = not_whole (read_ipv6 text) (λ segments read. never segments (read_colon_hex text segments read))

-- ---- both

abbrev address_at : Option (List ℕ) → Option (List ℕ) → Option IpAddr
address_at dotted colons = option_or (option_map ipv4 dotted) (option_map ipv6 colons)

pub address_parsed : {E : Type 0} (text : List ℕ) (r : Result IpAddr E) → Parses IsIpText text r → result_ok r ≡ address_of text
address_parsed text (Ok (Ip.V4 a)) spells =
    sym (ap (λ read. address_at (whole_value read) (whole_value (read_ipv6 text))) (dotted_read text _ spells))
address_parsed text (Ok (Ip.V6 a)) spells =
    sym (ap (λ dotted. address_at dotted (whole_value (read_ipv6 text)))
    (no_dotted text (λ octets dotted. IsDotted-not_colon_hex text octets _ dotted spells))
    ∙ ap (λ read. address_at None (whole_value read)) (colon_hex_read text _ spells))
address_parsed text (Err e) none =
    sym (ap (λ dotted. address_at dotted (whole_value (read_ipv6 text))) (no_dotted text (λ octets. none (ipv4 octets)))
    ∙ ap (address_at None) (no_colon_hex text (λ segments. none (ipv6 segments))))
