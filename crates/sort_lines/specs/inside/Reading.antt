-- Reading the tokens of a sort line one after another.
use Rattle.std.specs.Prelude.{◌≡◌, ℕ, ◌↔◌, ◌&&◌, ◌++◌, Bool, true, false, List, [], ◌∷◌}
use Rattle.std.specs.Prelude.{Option, Some, None, length, codes, nat_le, if◌then◌else◌}
use Rattle.std.specs.Str.{bytes_eq}
use Rattle.join_lex.specs.declared.token.Kind2.{Kind2}
use Rattle.join_lex.specs.declared.token.Kind2.TheVariants as kind
use Rattle.join_lex.specs.declared.token.Sign.TheVariants as sign
use Rattle.join_lex.specs.Tokens.{TokensOfText}
use Rattle.join_lex.specs.Lexical.{AreTokensOf}
use Rattle.sort_lines.specs.declared.content.Content.{Content}
use Rattle.sort_lines.specs.declared.content.Content.TheVariants.{Declares, Uses}
use Rattle.sort_lines.specs.Contents.{kinds, ReadsAs}

abbrev pub text_of : Kind2 → Option (List ℕ)
text_of (kind.Ident n) = Some n
text_of (kind.Number n) = None
text_of (kind.Key k) = None
text_of (kind.Sign s) = None

abbrev pub is_left : Kind2 → Bool
is_left (kind.Sign sign.ParenLeft) = true
is_left _ = false

abbrev pub is_right : Kind2 → Bool
is_right (kind.Sign sign.ParenRight) = true
is_right _ = false

abbrev pub is_comma : Kind2 → Bool
is_comma (kind.Sign sign.Comma) = true
is_comma _ = false

abbrev pub with_name : Option (List ℕ) → Option (List (List ℕ)) → Option (List (List ℕ))
with_name None o = None
with_name (Some n) None = None
with_name (Some n) (Some ns) = Some (n ∷ ns)

-- { "," ident } ")"
abbrev pub more_in : List Kind2 → Option (List (List ℕ))
more_in [] = None
more_in (k ∷ []) = if is_right k then Some [] else None
more_in (k ∷ n ∷ ks) = if is_comma k then with_name (text_of n) (more_in ks) else None

abbrev pub no_more : List Kind2 → Option (List (List ℕ))
no_more [] = Some []
no_more (k ∷ ks) = None

-- [ ident { "," ident } ] ")"
abbrev pub args_in : List Kind2 → Option (List (List ℕ))
args_in [] = None
args_in (k ∷ ks) = if is_right k then no_more ks else with_name (text_of k) (more_in ks)

abbrev pub declares_by : List ℕ → Option (List (List ℕ)) → Option Content
declares_by name None = None
declares_by name (Some args) =
    if nat_le (length args) 255 then Some (Declares name args) else None

abbrev pub uses_by : List ℕ → Option (List ℕ) → List Kind2 → Option Content
uses_by spell None ks = None
uses_by spell (Some name) [] = Some (Uses spell name)
uses_by spell (Some name) (k ∷ ks) = None

abbrev pub content_by : Option (List ℕ) → Option (List ℕ) → Kind2 → List Kind2 → Option Content
content_by None b c ks = None
content_by (Some a) None c ks = None
content_by (Some a) (Some b) c ks =
    if bytes_eq a (codes "use") then uses_by b (text_of c) ks
    else (if bytes_eq a (codes "sort") && is_left c then declares_by b (args_in ks) else None)

abbrev pub content_in : List Kind2 → Option Content
content_in [] = None
content_in (a ∷ []) = None
content_in (a ∷ b ∷ []) = None
content_in (a ∷ b ∷ c ∷ ks) = content_by (text_of a) (text_of b) c ks

-- ---- what the code's parts answer

abbrev pub is_named : Kind2 → List ℕ → Bool
is_named (kind.Ident n) word = bytes_eq n word
is_named (kind.Number n) word = false
is_named (kind.Key k) word = false
is_named (kind.Sign s) word = false

-- a name after a comma
abbrev pub pair_in : Kind2 → Kind2 → Option (List ℕ)
pair_in k n = if is_comma k then text_of n else None

-- names were read behind those that were there, or it is false that they could be
abbrev pub HasRead : (old : List (List ℕ)) → Option (List (List ℕ)) → Bool
    → (new : List (List ℕ)) → Type 0
HasRead old None b new = b ≡ false
HasRead old (Some ns) b new = (b ≡ true) × (new ≡ old ++ ns)

-- the second and the third token of a use
abbrev pub uses_of : Option (List ℕ) → Option (List ℕ) → Option Content
uses_of None o = None
uses_of (Some spell) None = None
uses_of (Some spell) (Some name) = Some (Uses spell name)

abbrev pub uses_in : Kind2 → Kind2 → Option Content
uses_in k n = uses_of (text_of k) (text_of n)

abbrev pub declares_of : Option (List ℕ) → Option (List (List ℕ)) → Option Content
declares_of None o = None
declares_of (Some name) o = declares_by name o

abbrev pub if_none : List Kind2 → Option Content → Option Content
if_none [] o = o
if_none (k ∷ ks) o = None

abbrev pub three_in : Kind2 → Kind2 → Kind2 → List Kind2 → Option Content
three_in a b c ks =
    if is_named a (codes "use") then if_none ks (uses_in b c)
    else if is_named a (codes "sort")
    then (if is_left c then declares_of (text_of b) (args_in ks) else None)
    else None

-- what a line says, and that it says nothing else
abbrev pub IsSaid : List ℕ → Option Content → Type 0
IsSaid text None = (c : Content) → ReadsAs text c → ⊥
IsSaid text (Some c) = ReadsAs text c × ((d : Content) → ReadsAs text d → d ≡ c)

-- a line reads so exactly where its tokens say so
abbrev pub ContentIsRead : Type 0
ContentIsRead =
    (text : List ℕ) (t : TokensOfText) → AreTokensOf t text → (c : Content)
    → ReadsAs text c ↔ (content_in (kinds t.list) ≡ Some c)
