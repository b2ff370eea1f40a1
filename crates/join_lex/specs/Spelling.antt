-- How keywords, signs, identifiers and numbers are spelled.
use Rattle.std.specs.Prelude.{◌≡◌, ◌≢◌, ℕ, ◌+◌, ◌*◌, ◌-◌, ◌≤◌, ◌||◌, ◌&&◌, ◌==◌}
use Rattle.std.specs.Prelude.{nat_le, not, Bool, true, false, IsTrue, List, [], ◌∷◌, codes, fold}
use Rattle.chem_model.specs.Each.{IsIn}
use Rattle.join_lex.specs.declared.token.Key.{Key}
use Rattle.join_lex.specs.declared.token.Key.TheVariants as key
use Rattle.join_lex.specs.declared.token.Sign.{Sign}
use Rattle.join_lex.specs.declared.token.Sign.TheVariants as sign
use Rattle.join_lex.specs.declared.token.Kind2.{Kind2}
use Rattle.join_lex.specs.declared.token.Kind2.TheVariants as kind

-- what a version of the language chooses: its largest number, and its keywords
pub record Version : Type 0 where
  pub largest : ℕ
  pub keywords : List Key

abbrev pub first_version : Version
first_version = record {
  largest = 255;
  keywords =
      key.Observe ∷ key.Site ∷ key.Def ∷ key.Inside ∷ key.And ∷ key.Go ∷ key.Fail ∷ key.Halt
      ∷ key.Void ∷ [];
}

-- It has the numbers that 8 bytes hold, and two keywords more.
abbrev pub second_version : Version
second_version = record {
  largest = 18446744073709551615;
  keywords =
      key.Observe ∷ key.Site ∷ key.Def ∷ key.Inside ∷ key.And ∷ key.Go ∷ key.Fail ∷ key.Halt
      ∷ key.Void ∷ key.Add ∷ key.Same ∷ [];
}

abbrev pub version_at : Bool → Version
version_at false = first_version
version_at true = second_version

-- space, tab, line feed and carriage return
abbrev pub is_blank : ℕ → Bool
is_blank b = (b == 32) || (b == 9) || (b == 10) || (b == 13)

-- `#`
abbrev pub is_hash : ℕ → Bool
is_hash b = b == 35

-- all but the line feed
abbrev pub in_line : ℕ → Bool
in_line b = not (b == 10)

-- a to z
abbrev pub is_lower : ℕ → Bool
is_lower b = nat_le 97 b && nat_le b 122

-- 0 to 9
abbrev pub is_digit : ℕ → Bool
is_digit b = nat_le 48 b && nat_le b 57

-- a letter, a digit or `_`
abbrev pub in_word : ℕ → Bool
in_word b = is_lower b || (nat_le 65 b && nat_le b 90) || is_digit b || (b == 95)

abbrev pub key_bytes : Key → List ℕ
key_bytes key.Observe = codes "observe"
key_bytes key.Site = codes "site"
key_bytes key.Def = codes "def"
key_bytes key.Inside = codes "in"
key_bytes key.And = codes "and"
key_bytes key.Go = codes "go"
key_bytes key.Fail = codes "fail"
key_bytes key.Halt = codes "halt"
key_bytes key.Void = codes "none"
key_bytes key.Add = codes "add"
key_bytes key.Same = codes "same"

abbrev pub sign_bytes : Sign → List ℕ
sign_bytes sign.Arrow = codes "=>"
sign_bytes sign.Colon = codes ":"
sign_bytes sign.Bar = codes "|"
sign_bytes sign.ParenLeft = codes "("
sign_bytes sign.ParenRight = codes ")"
sign_bytes sign.SquareLeft = codes "["
sign_bytes sign.SquareRight = codes "]"
sign_bytes sign.Comma = codes ","
sign_bytes sign.Semicolon = codes ";"
sign_bytes sign.Slash = codes "/"

-- the value of decimal digits
abbrev pub value_of : List ℕ → ℕ
value_of digits = fold (λ v d. v * 10 + (d - 48)) 0 digits

-- every byte passes
abbrev pub Pass : (ℕ → Bool) → List ℕ → Type 0
Pass f [] = Unit {0}
Pass f (b ∷ bs) = IsTrue (f b) × Pass f bs

-- a first byte and then bytes that pass
pub record IsStretch (first f : ℕ → Bool) (word : List ℕ) : Type 0 where
  pub head : ℕ
  pub more : List ℕ
  pub is : word ≡ head ∷ more
  pub starts : IsTrue (first head)
  pub passes : Pass f more

-- a word that is no keyword of this version
abbrev pub IsIdentifier : Version → List ℕ → Type 0
IsIdentifier version word =
    IsStretch is_lower in_word word × ((k : Key) → IsIn k version.keywords → word ≢ key_bytes k)

-- a token that this version has
abbrev pub IsOfVersion : Version → Kind2 → Type 0
IsOfVersion version (kind.Ident name) = IsIdentifier version name
IsOfVersion version (kind.Number n) = n ≤ version.largest
IsOfVersion version (kind.Key k) = IsIn k version.keywords
IsOfVersion version (kind.Sign s) = Unit {0}
