-- The object that a body is, by what the library reads.
use Rattle.std.proofs.Common.{◌≡◌, ℕ, List, [], ◌∷◌, length, Some, None, true, false, cond, is_some, option_and_then, ap, ◌∙◌, refl, eqb}
use Rattle.std.specs.Str.{IsUtf8, is_utf8}
use Rattle.std.proofs.lemmas.Str.{IsUtf8-from_is_utf8, is_utf8-from_IsUtf8}
use Rattle.serde_json.specs.Data.{Data, null, boolean, number, string, array, object}
use Rattle.serde_json.specs.Find.{as_object}
use Rattle.serde_json.specs.Read.{read}
use Rattle.wire_json.specs.Bodies.{object_of, only_object}

-- an object is itself
only_object_of : (value : Data) → is_some (as_object value) ≡ true → only_object value ≡ Some value
only_object_of null h = cc
only_object_of (boolean b) h = cc
only_object_of (number n) h = cc
only_object_of (string s) h = cc
only_object_of (array values) h = cc
only_object_of (object fields) h = refl

-- what the library reads of a text that is not empty
text_read : (bytes : List ℕ) (value : Data) → eqb (length bytes) 0 ≡ false → IsUtf8 bytes → read bytes ≡ Some value → object_of bytes ≡ only_object value
text_read [] value some utf8 e = cc
text_read (b ∷ bytes) value some utf8 e =
    ap (λ t. cond t (option_and_then only_object (read (b ∷ bytes))) None) (is_utf8-from_IsUtf8 (b ∷ bytes) utf8) ∙ ap (option_and_then only_object) e

-- an object was read
pub object_read : (bytes : List ℕ) (value : Data) → eqb (length bytes) 0 ≡ false → IsUtf8 bytes → read bytes ≡ Some value → is_some (as_object value) ≡ true → object_of bytes ≡ Some value
object_read bytes value some utf8 e is = text_read bytes value some utf8 e ∙ only_object_of value is

-- the text was refused
pub text_refused : (bytes : List ℕ) → eqb (length bytes) 0 ≡ false → (IsUtf8 bytes → read bytes ≡ None) → object_of bytes ≡ None
text_refused [] some none = cc
text_refused (b ∷ bytes) some none =
    elim (is_utf8 (b ∷ bytes)) as (λ t. is_utf8 (b ∷ bytes) ≡ t → cond t (option_and_then only_object (read (b ∷ bytes))) None ≡ None) [
      | true ↦ λ h. ap (option_and_then only_object) (none (IsUtf8-from_is_utf8 (b ∷ bytes) h))
      | false ↦ λ h. refl
    ] refl
