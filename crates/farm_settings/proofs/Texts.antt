-- What a text sets, by what the library reads.
use Rattle.std.proofs.Common.{◌≡◌, ℕ, List, Some, None, Err, true, false, cond, ap, ◌∙◌, refl}
use Rattle.std.specs.Str.{IsUtf8, is_utf8}
use Rattle.std.proofs.lemmas.Str.{IsUtf8-from_is_utf8, is_utf8-from_IsUtf8}
use Rattle.serde_json.specs.Data.{Data}
use Rattle.serde_json.specs.Read.{read}
use Rattle.farm_settings.specs.declared.faults.SettingsFault.TheVariants.{NotJson}
use Rattle.farm_settings.specs.FarmJson.{settings_of_text, settings_of_value}

-- a value was read
pub value_read : (text : List ℕ) (value : Data) → IsUtf8 text → read text ≡ Some value → settings_of_text text ≡ settings_of_value (Some value)
value_read text value utf8 e =
    ap (λ b. cond b (settings_of_value (read text)) (Err NotJson)) (is_utf8-from_IsUtf8 text utf8) ∙ ap settings_of_value e

-- the text was refused
pub text_refused : (text : List ℕ) → (IsUtf8 text → read text ≡ None) → settings_of_text text ≡ Err NotJson
text_refused text none =
    elim (is_utf8 text) as (λ b. is_utf8 text ≡ b → cond b (settings_of_value (read text)) (Err NotJson) ≡ Err NotJson) [
      | true ↦ λ h. ap settings_of_value (none (IsUtf8-from_is_utf8 text h))
      | false ↦ λ h. refl
    ] refl
