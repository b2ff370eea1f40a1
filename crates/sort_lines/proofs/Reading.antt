-- A line reads so exactly where its tokens, read one after another, say so.
use Rattle.std.proofs.Common.{◌≡◌, ℕ, ◌≤◌, ◌&&◌, Bool, true, false, cond, List, [], ◌∷◌, Option}
use Rattle.std.proofs.Common.{Some, None, refl, sym, ap, ◌∙◌, subst, arith, length, codes}
use Rattle.std.specs.Prelude.{nat_le}
use Rattle.std.specs.Str.{bytes_eq}
use Rattle.std.proofs.lemmas.Bool.{and_parts}
use Rattle.std.proofs.lemmas.Slice.Eq.{bytes_eq-Decides}
use Rattle.join_lex.specs.declared.token.Kind2.{Kind2}
use Rattle.join_lex.specs.declared.token.Kind2.TheVariants as kind
use Rattle.join_lex.specs.declared.token.Sign.TheVariants as sign
use Rattle.join_lex.specs.declared.token.Token.{Token}
use Rattle.join_lex.specs.Spelling.{first_version, version_at}
use Rattle.join_lex.specs.Tokens.{TokensOfText}
use Rattle.join_lex.specs.Versions.{is_version_word, is_two, is_semicolon, says_second}
use Rattle.join_lex.specs.Lexical.{tokens_at, StandFor, IsOf, AreTokensIn, AreTokensOf}
use Rattle.join_lex.proofs.StepLaws.{one_split, ends-empty}
use Rattle.join_lex.proofs.VersionLaws.{is-of, told, one-version, whole-outcome}
use Rattle.sort_lines.specs.declared.content.Content.{Content}
use Rattle.sort_lines.specs.declared.content.Content.TheVariants.{Declares, Uses}
use Rattle.sort_lines.specs.Contents.{kinds, more_names, names, kinds_of, IsShort, ReadsAs}
use Rattle.sort_lines.specs.inside.Reading.{text_of, is_left, is_right, is_comma, with_name}
use Rattle.sort_lines.specs.inside.Reading.{more_in, no_more, args_in, declares_by, uses_by}
use Rattle.sort_lines.specs.inside.Reading.{content_by, content_in, ContentIsRead}

-- ---- one token

text_is : (k : Kind2) (n : List ℕ) → text_of k ≡ Some n → k ≡ kind.Ident n
text_is (kind.Ident m) n e = let is : m ≡ n = cc in ap kind.Ident is
text_is (kind.Number m) n e = cc
text_is (kind.Key m) n e = cc
text_is (kind.Sign m) n e = cc

left_is : (k : Kind2) → is_left k ≡ true → k ≡ kind.Sign sign.ParenLeft
left_is (kind.Sign sign.ParenLeft) e = refl
left_is _ e = cc

right_is : (k : Kind2) → is_right k ≡ true → k ≡ kind.Sign sign.ParenRight
right_is (kind.Sign sign.ParenRight) e = refl
right_is _ e = cc

comma_is : (k : Kind2) → is_comma k ≡ true → k ≡ kind.Sign sign.Comma
comma_is (kind.Sign sign.Comma) e = refl
comma_is _ e = cc

-- ---- what is read stands there

named_is : (o : Option (List ℕ)) (os : Option (List (List ℕ))) (ns : List (List ℕ))
    → with_name o os ≡ Some ns
    → (m : List ℕ) × (ms : List (List ℕ)) × (o ≡ Some m) × (os ≡ Some ms) × (ns ≡ m ∷ ms)
named_is None os ns e = cc
named_is (Some m) None ns e = cc
named_is (Some m) (Some ms) ns e = (m, ms, refl, refl, let is : m ∷ ms ≡ ns = cc in sym is)

more_sound : (ks : List Kind2) (ns : List (List ℕ)) → more_in ks ≡ Some ns → ks ≡ more_names ns
more_sound [] ns e = cc
more_sound (k ∷ []) ns e = go (is_right k) refl e
  where
    go : (u : Bool) → is_right k ≡ u → cond u (Some []) None ≡ Some ns → k ∷ [] ≡ more_names ns
    go true c f = let is : [] ≡ ns = cc in ap (λ j. j ∷ []) (right_is k c) ∙ ap more_names is
    go false c f = cc
more_sound (k ∷ n ∷ ks) ns e = go (is_comma k) refl e (more_sound ks)
  where
    go : (u : Bool) → is_comma k ≡ u → cond u (with_name (text_of n) (more_in ks)) None ≡ Some ns
        → ((ms : List (List ℕ)) → more_in ks ≡ Some ms → ks ≡ more_names ms)
        → k ∷ n ∷ ks ≡ more_names ns
    go true c f ih =
        let d = named_is (text_of n) (more_in ks) ns f in
        (λ i. comma_is k c i ∷ text_is n d.0 d.2 i ∷ ih d.1 d.3 i) ∙ ap more_names (sym d.4)
    go false c f ih = cc

args_sound : (ks : List Kind2) (ns : List (List ℕ)) → args_in ks ≡ Some ns → ks ≡ names ns
args_sound [] ns e = cc
args_sound (k ∷ ks) ns e = go (is_right k) refl e
  where
    ended : (l : List Kind2) → no_more l ≡ Some ns → k ≡ kind.Sign sign.ParenRight
        → k ∷ l ≡ names ns
    ended [] f c = let is : [] ≡ ns = cc in ap (λ j. j ∷ []) c ∙ ap names is
    ended (x ∷ l) f c = cc

    go : (u : Bool) → is_right k ≡ u
        → cond u (no_more ks) (with_name (text_of k) (more_in ks)) ≡ Some ns → k ∷ ks ≡ names ns
    go true c f = ended ks f (right_is k c)
    go false c f =
        let d = named_is (text_of k) (more_in ks) ns f in
        (λ i. text_is k d.0 d.2 i ∷ more_sound ks d.1 d.3 i) ∙ ap names (sym d.4)

nat_le-is : (m n : ℕ) → nat_le m n ≡ true → m ≤ n
nat_le-is m n e = grind (arith, e)

is-nat_le : (m n : ℕ) → m ≤ n → nat_le m n ≡ true
is-nat_le m n h = grind (arith, h)

abbrev Says : List Kind2 → Content → Type 0
Says ks c = (ks ≡ kinds_of c) × IsShort c

content_sound : (ks : List Kind2) (c : Content) → content_in ks ≡ Some c → Says ks c
content_sound [] c e = cc
content_sound (x ∷ []) c e = cc
content_sound (x ∷ y ∷ []) c e = cc
content_sound (x ∷ y ∷ z ∷ ks) c e = go (text_of x) refl (text_of y) refl e
  where
    used : (a b : List ℕ) (o : Option (List ℕ)) (l : List Kind2) → text_of z ≡ o
        → text_of x ≡ Some a → text_of y ≡ Some b → a ≡ codes "use" → uses_by b o l ≡ Some c
        → Says (x ∷ y ∷ z ∷ l) c
    used a b None l q f g w h = cc
    used a b (Some n) [] q f g w h =
        let is : Uses b n ≡ c = cc in
        subst (Says (x ∷ y ∷ z ∷ [])) is
        ((λ i. (text_is x a f ∙ ap kind.Ident w) i ∷ text_is y b g i ∷ text_is z n q i ∷ []), tt)
    used a b (Some n) (k ∷ l) q f g w h = cc

    declared : (a b : List ℕ) (o : Option (List (List ℕ))) → args_in ks ≡ o
        → z ≡ kind.Sign sign.ParenLeft → text_of x ≡ Some a → text_of y ≡ Some b → a ≡ codes "sort"
        → declares_by b o ≡ Some c → Says (x ∷ y ∷ z ∷ ks) c
    declared a b None q l f g w h = cc
    declared a b (Some ns) q l f g w h = short (nat_le (length ns) 255) refl h
      where
        short : (u : Bool) → nat_le (length ns) 255 ≡ u
            → cond u (Some (Declares b ns)) None ≡ Some c → Says (x ∷ y ∷ z ∷ ks) c
        short true r d =
            let is : Declares b ns ≡ c = cc in
            subst (Says (x ∷ y ∷ z ∷ ks)) is (
              (λ i. (text_is x a f ∙ ap kind.Ident w) i ∷ text_is y b g i ∷ l i
                  ∷ args_sound ks ns q i),
              nat_le-is (length ns) 255 r,
            )
        short false r d = cc

    other : (a b : List ℕ) → text_of x ≡ Some a → text_of y ≡ Some b → (u : Bool)
        → bytes_eq a (codes "sort") && is_left z ≡ u
        → cond u (declares_by b (args_in ks)) None ≡ Some c → Says (x ∷ y ∷ z ∷ ks) c
    other a b f g true q h =
        let p = and_parts (bytes_eq a (codes "sort")) (is_left z) q in
        declared a b (args_in ks) refl (left_is z p.1) f g
        ((bytes_eq-Decides a (codes "sort")).0 p.0) h
    other a b f g false q h = cc

    first : (a b : List ℕ) → text_of x ≡ Some a → text_of y ≡ Some b → (u : Bool)
        → bytes_eq a (codes "use") ≡ u
        → cond u (uses_by b (text_of z) ks)
        (cond (bytes_eq a (codes "sort") && is_left z) (declares_by b (args_in ks)) None) ≡ Some c
        → Says (x ∷ y ∷ z ∷ ks) c
    first a b f g true q h =
        used a b (text_of z) ks refl f g ((bytes_eq-Decides a (codes "use")).0 q) h
    first a b f g false q h = other a b f g (bytes_eq a (codes "sort") && is_left z) refl h

    go : (o : Option (List ℕ)) → text_of x ≡ o → (v : Option (List ℕ)) → text_of y ≡ v
        → content_by o v z ks ≡ Some c → Says (x ∷ y ∷ z ∷ ks) c
    go None f v g h = cc
    go (Some a) f None g h = cc
    go (Some a) f (Some b) g h = first a b f g (bytes_eq a (codes "use")) refl h

-- ---- what stands there is read

more_complete : (ns : List (List ℕ)) → more_in (more_names ns) ≡ Some ns
more_complete [] = refl
more_complete (n ∷ ns) = ap (with_name (Some n)) (more_complete ns)

args_complete : (ns : List (List ℕ)) → args_in (names ns) ≡ Some ns
args_complete [] = refl
args_complete (n ∷ ns) = ap (with_name (Some n)) (more_complete ns)

content_complete : (c : Content) → IsShort c → content_in (kinds_of c) ≡ Some c
content_complete (Declares name args) h = ap (declares_by name) (args_complete args)
    ∙ ap (λ u. cond u (Some (Declares name args)) None) (is-nat_le (length args) 255 h)
content_complete (Uses spell name) h = refl

-- ---- a line

-- tokens that read so are of the first version
says_first : (ts : List Token) (c : Content) → kinds ts ≡ kinds_of c → says_second ts ≡ false
says_first [] c e = refl
says_first (x ∷ []) c e = refl
says_first (x ∷ y ∷ []) c e = refl
says_first (x ∷ y ∷ z ∷ ts) (Declares name args) e =
    let is : x.kind ≡ kind.Ident (codes "sort") = cc in
    ap (λ k. is_version_word k && is_two y.kind && is_semicolon z.kind) is
says_first (x ∷ y ∷ z ∷ ts) (Uses spell name) e =
    let is : x.kind ≡ kind.Ident (codes "use") = cc in
    ap (λ k. is_version_word k && is_two y.kind && is_semicolon z.kind) is

pub reads_by : (text : List ℕ) (c : Content) → length text ≤ 1048576 → (r : ReadsAs text c)
    → AreTokensIn first_version (record { list = r.tokens; length = length text }) text
reads_by text c short r = record { short = short; stand = r.stand; length_is = refl }

pub read_by : (text : List ℕ) (c : Content) (r : ReadsAs text c)
    → content_in (kinds r.tokens) ≡ Some c
read_by text c r = ap content_in r.reads ∙ content_complete c r.short

pub read_back : (text : List ℕ) (t : TokensOfText) (c : Content)
    → StandFor first_version t.list text → content_in (kinds t.list) ≡ Some c → ReadsAs text c
read_back text t c stand e =
    let s = content_sound (kinds t.list) c e in
    record { tokens = t.list; stand = stand; reads = s.0; short = s.1 }

-- the tokens by which a line reads are those of its text
pub are_tokens : (text : List ℕ) (c : Content) → length text ≤ 1048576 → (r : ReadsAs text c)
    → AreTokensOf (record { list = r.tokens; length = length text }) text
are_tokens text c short r =
    let says : says_second (tokens_at 0 r.stand.pieces) ≡ false =
    ap says_second (sym r.stand.tokens_are) ∙ says_first r.tokens c r.reads in
    (first_version, is-of false r.stand.pieces text r.stand.split says, reads_by text c short r)

short_of : (text : List ℕ) (t : TokensOfText) → AreTokensOf t text → length text ≤ 1048576
short_of text t (version, of, a) = a.short

stand_of : (text : List ℕ) (t : TokensOfText) → says_second t.list ≡ false → AreTokensOf t text
    → StandFor first_version t.list text
stand_of text t e (version, of, a) =
    let told_is : IsOf first_version text =
    subst (λ u. IsOf (version_at u) text) e (told text t (version, of, a)) in
    subst (λ v. StandFor v t.list text) (one-version text version first_version of told_is) a.stand

pub content_is_read : ContentIsRead
content_is_read text t are c = (
  λ r. (
      let same = (whole-outcome text).one_list (record { list = r.tokens; length = length text }) t
      (are_tokens text c (short_of text t are) r) are in
      ap (λ (v : TokensOfText). content_in (kinds v.list)) (sym same) ∙ read_by text c r
      ),
  λ e. read_back text t c
      (stand_of text t (says_first t.list c (content_sound (kinds t.list) c e).0) are) e,
)

-- a line reads in at most one way
pub one_reading : (text : List ℕ) (c d : Content) → ReadsAs text c → ReadsAs text d → c ≡ d
one_reading text c d r q =
    let pieces = (one_split first_version r.stand.pieces q.stand.pieces text [] []
    r.stand.split (ends-empty first_version) q.stand.split (ends-empty first_version)).0 in
    let same : kinds_of c ≡ kinds_of d =
    sym r.reads ∙ ap kinds r.stand.tokens_are ∙ ap (λ ps. kinds (tokens_at 0 ps)) pieces
    ∙ sym (ap kinds q.stand.tokens_are) ∙ q.reads in
    let both : Some c ≡ Some d =
    sym (content_complete c r.short) ∙ ap content_in same ∙ content_complete d q.short in
    cc
