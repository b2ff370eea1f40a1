-- One piece after another, up to the end or the first fault.
use Rattle.std.proofs.Common.{◌≡◌, ◌≢◌, ◌⊎◌, ℕ, zero, suc, Bool, true, false, leb, ◌+◌, ◌-◌, ◌<◌}
use Rattle.std.proofs.Common.{◌≤◌, List, [], ◌∷◌, ◌++◌, length, drop, refl, sym, ap, ap₂, ◌∙◌, inl}
use Rattle.std.proofs.Common.{inr, subst, arith, Ok, Err, Option, Some, None, length-append}
use Rattle.std.proofs.Common.{length-drop, Result, IfOk, IfErr}
use Rattle.std.proofs.Math.Seq.{drop-append_seam}
use Rattle.std.proofs.lemmas.Bool.Decides.{nat_tests}
use Rattle.std.proofs.lemmas.List.{length-take-le, drop-drop}
use Rattle.join_base.specs.declared.fault.Kind.{Kind}
use Rattle.join_base.specs.declared.fault.Kind.TheVariants.{Lex2, Lex3}
use Rattle.join_base.specs.declared.fault.Front.{Front}
use Rattle.join_base.specs.declared.fault.Front.TheVariants as front
use Rattle.join_lex.specs.declared.token.Kind2.{Kind2}
use Rattle.join_lex.specs.declared.token.Token.{Token}
use Rattle.join_lex.specs.Spelling.{Version}
use Rattle.join_lex.specs.Tokens.{TokensOfText}
use Rattle.join_lex.specs.Lexical.{Fault, too_long, no_token, large_number, Piece, Gap, Word}
use Rattle.join_lex.specs.Lexical.{bytes_of, BeginsWith, IsSmall, NoToken, LargeNumber, BreaksAt}
use Rattle.join_lex.specs.Lexical.{Splits, tokens_at, StandFor, AreTokensIn, IsFirstFaultIn, Names}
use Rattle.join_lex.specs.Lexical.{IsOrMemory, kind_of, IsOneOutcome}
use Rattle.join_lex.specs.inside.Scan.{scan, piece_of, ScanFails}
use Rattle.join_lex.specs.inside.Steps.{StepsTo}
use Rattle.join_lex.proofs.Passed.{Passed}
use Rattle.join_lex.proofs.ScanLaws.{scan-sound, scan-none, Sound, begins-found}

pub not-empty : (text : List ℕ) (at : ℕ) → at < length text → drop at text ≢ []
not-empty text at l e =
    let n : length (drop at text) ≡ 0 = ap length e in
    omega (arith, length-drop at text)

length-piece : (rest : List ℕ) (k : Option Kind2) (len : ℕ) → len ≤ length rest
    → length (bytes_of (piece_of rest k len)) ≡ len
length-piece rest None len l = length-take-le len rest l
length-piece rest (Some k) len l = length-take-le len rest l

-- a piece at the front is followed by what is left when it is dropped
begins-drop : (version : Version) (p : Piece) (text more : List ℕ) (len : ℕ)
    → BeginsWith version p text more → length (bytes_of p) ≡ len
    → BeginsWith version p text (drop len text)
begins-drop version p text more len b e =
    let d : drop len text ≡ more = rw (b.whole, ← e) (drop-append_seam (bytes_of p) more) in
    rw d b

pub stepped :
    (version : Version) (text : List ℕ) (at len : ℕ) (k : Option Kind2) (old new : List Token)
    → at < length text → len ≤ length (drop at text)
    → scan version (drop at text) ≡ Ok (piece_of (drop at text) k len)
    → new ≡ old ++ tokens_at at (piece_of (drop at text) k len ∷ [])
    → StepsTo version text at (at + len) old new
stepped version text at len k old new l m e t =
    let s : Sound version (drop at text) (Ok (piece_of (drop at text) k len)) =
    subst (λ r. Sound version (drop at text) r) e
    (scan-sound version (drop at text) (not-empty text at l)) in
    let n = length-piece (drop at text) k len m in
    record {
      piece = piece_of (drop at text) k len;
      begins = rw (sym (drop-drop len at text)) (begins-drop version _ _ _ len s.0.1 n);
      small = s.1;
      moved = omega arith;
      further = omega (arith, s.2);
      within = omega (arith, length-drop at text);
      tokens = t;
    }

pub total : List Piece → ℕ
total [] = 0
total (p ∷ ps) = length (bytes_of p) + total ps

pub tokens_at-more : (at : ℕ) (ps qs : List Piece)
    → tokens_at at (ps ++ qs) ≡ tokens_at at ps ++ tokens_at (at + total ps) qs
unfolding total
tokens_at-more at [] qs = ap (λ n. tokens_at n qs) (omega arith)
tokens_at-more at (Gap g ∷ ps) qs = tokens_at-more (at + length g) ps qs
    ∙ ap (λ n. tokens_at (at + length g) ps ++ tokens_at n qs) (omega arith)
tokens_at-more at (Word k w ∷ ps) qs =
    ap (λ ts. record { kind = k; span = record { from = at; upto = at + length w } } ∷ ts)
    (tokens_at-more (at + length w) ps qs
    ∙ ap (λ n. tokens_at (at + length w) ps ++ tokens_at n qs) (omega arith))

splits-total : (version : Version) (ps : List Piece) (text rest : List ℕ)
    → Splits version ps text rest → total ps + length rest ≡ length text
unfolding total
splits-total version [] text rest e = omega (arith, ap length e)
splits-total version (p ∷ ps) text rest (more, b, s, t) =
    let i = splits-total version ps more rest t in
    omega (arith, simp length-append at (ap length b.whole))

splits-more : (version : Version) (ps : List Piece) (p : Piece) (text rest more : List ℕ)
    → Splits version ps text rest → BeginsWith version p rest more → IsSmall version p
    → Splits version (ps ++ p ∷ []) text more
splits-more version [] p text rest more e b s = (more, rw e b, s, refl)
splits-more version (q ∷ ps) p text rest more (next, c, k, t) b s =
    (next, c, k, splits-more version ps p next rest more t b s)

pub passed-step : (version : Version) (text : List ℕ) (at upto : ℕ) (old new : List Token)
    → Passed version text at old → StepsTo version text at upto old new
    → Passed version text upto new
passed-step version text at upto old new p s =
    let n : total p.pieces ≡ at = omega (
      arith,
      splits-total version p.pieces text (drop at text) p.split,
      length-drop at text,
      p.within,
    ) in
    record {
      pieces = p.pieces ++ s.piece ∷ [];
      split = splits-more version p.pieces s.piece text (drop at text) (drop upto text)
          p.split s.begins s.small;
      within = s.within;
      tokens_are = s.tokens
          ∙ rw p.tokens_are (sym (tokens_at-more 0 p.pieces (s.piece ∷ [])
          ∙ ap (λ k. tokens_at 0 p.pieces ++ tokens_at k (s.piece ∷ [])) (omega arith)));
    }

pub tokens_at-some : (at : ℕ) (rest : List ℕ) (kind : Option Kind2) (k : Kind2) (len : ℕ)
    → kind ≡ Some k → len ≤ length rest
    → tokens_at at (piece_of rest kind len ∷ [])
    ≡ record { kind = k; span = record { from = at; upto = at + len } } ∷ []
tokens_at-some at rest kind k len e l =
    rw e (ap (λ n. record { kind = k; span = record { from = at; upto = at + n } } ∷ [])
    (length-take-le len rest l))

pub tokens_at-none : (at : ℕ) (rest : List ℕ) (kind : Option Kind2) (len : ℕ) → kind ≡ None
    → tokens_at at (piece_of rest kind len ∷ []) ≡ []
tokens_at-none at rest kind len e = rw e refl

pub stops-refused : (version : Version) (text : List ℕ) (at : ℕ) (tokens : List Token) (e : Front)
    → length text ≤ 1048576 → at < length text → Passed version text at tokens
    → ScanFails version at (drop at text) e
    → Names (λ fault place. IsFirstFaultIn version fault place text) e
stops-refused version text at tokens front.Memory s l p h = tt
stops-refused version text at tokens (front.Refused k place) s l p h =
    by_kind (subst (λ r. Sound version (drop at text) r)
    h.1 (scan-sound version (drop at text) (not-empty text at l)))
  where
    by_kind : (k ≡ Lex2) ⊎ ((k ≡ Lex3) × LargeNumber version (drop at text))
        → Names (λ fault place. IsFirstFaultIn version fault place text) (front.Refused k place)
    by_kind (inl e) =
        let none : scan version (drop at text) ≡ Err Lex2 = rw e at h.1 in (
          no_token,
          e,
          (
            s,
            record {
              pieces = p.pieces;
              rest = drop at text;
              split = p.split;
              bad = (not-empty text at l, scan-none version _ none);
              place_is = omega (arith, length-drop at text, h.0);
            },
          ),
        )
    by_kind (inr (e, large)) = (
      large_number,
      e,
      (
        s,
        record {
          pieces = p.pieces;
          rest = drop at text;
          split = p.split;
          bad = large;
          place_is = omega (arith, length-drop at text, h.0);
        },
      ),
    )

-- No piece within the bound begins the rest.
abbrev pub Ends : Version → List ℕ → Type 0
Ends version rest =
    (p : Piece) (more : List ℕ) → BeginsWith version p rest more → IsSmall version p → ⊥

pub found-small : (version : Version) (p : Piece) (text more : List ℕ)
    → BeginsWith version p text more → IsSmall version p → scan version text ≡ Ok p
found-small version p text more b s = (begins-found version p text more b).0 s

found-large : (version : Version) (rest : List ℕ) → LargeNumber version rest
    → scan version rest ≡ Err Lex3
found-large version rest (n, word, more, b, l) =
    (begins-found version _ rest more b).1 (λ s. omega (arith, s, l))

pub ends-empty : (version : Version) → Ends version []
ends-empty version p more b s = let e : Err Lex2 ≡ Ok p = found-small version p [] more b s in cc

pub ends-none : (version : Version) (rest : List ℕ) → NoToken version rest → Ends version rest
ends-none version rest bad p more b s = bad.1 p more b

pub ends-large : (version : Version) (rest : List ℕ) → LargeNumber version rest → Ends version rest
ends-large version rest bad p more b s =
    let e = found-small version p rest more b s in
    let l = found-large version rest bad in
    cc

pub same-rest : (version : Version) (p : Piece) (text more next : List ℕ)
    → BeginsWith version p text more → BeginsWith version p text next → more ≡ next
same-rest version p text more next b c =
    let d : drop (length (bytes_of p)) text ≡ more =
    rw b.whole (drop-append_seam (bytes_of p) more) in
    let e : drop (length (bytes_of p)) text ≡ next =
    rw c.whole (drop-append_seam (bytes_of p) next) in
    cc

-- There is one way to split a text up to where no piece goes on.
pub one_split : (version : Version) (ps qs : List Piece) (text r s : List ℕ)
    → Splits version ps text r → Ends version r → Splits version qs text s → Ends version s
    → (ps ≡ qs) × (r ≡ s)
one_split version [] [] text r s a e b f = (refl, cc)
one_split version [] (q ∷ qs) text r s a e (next, d, k, t) f = absurd (e q next (rw a at d) k)
one_split version (p ∷ ps) [] text r s (more, c, j, t) e b f = absurd (f p more (rw b at c) j)
one_split version (p ∷ ps) (q ∷ qs) text r s (more, c, j, t) e (next, d, k, u) f =
    let x = found-small version p text more c j in
    let y = found-small version q text next d k in
    let same : p ≡ q = cc in
    let d' = rw (← same) at d in
    let m : more ≡ next = same-rest version p text more next c d' in
    let u' = rw (← m) at u in
    let rest = one_split version ps qs more r s t e u' f in
    (cc, rest.1)

-- Two faults of one text stand before one rest and at one place.
record Meets (A B : List ℕ → Type 0) (p q : ℕ) : Type 0 where
  rest : List ℕ
  one : A rest
  other : B rest
  place : p ≡ q

meet : (version : Version) (text : List ℕ) (A B : List ℕ → Type 0) (p q : ℕ)
    → BreaksAt version A p text → BreaksAt version B q text → ((r : List ℕ) → A r → Ends version r)
    → ((r : List ℕ) → B r → Ends version r) → Meets A B p q
meet version text A B p q f g ends ends' =
    let o = one_split version f.pieces g.pieces text f.rest g.rest f.split (ends f.rest f.bad)
    g.split (ends' g.rest g.bad) in
    let e : length f.rest ≡ length g.rest = ap length o.1 in
    record {
      rest = f.rest;
      one = f.bad;
      other = subst B (sym o.1) g.bad;
      place = omega (arith, f.place_is, g.place_is);
    }

-- A text that is split to its end has no rest at which it breaks.
against : (version : Version) (text : List ℕ) (tokens : List Token) (A : List ℕ → Type 0) (p : ℕ)
    → StandFor version tokens text → BreaksAt version A p text
    → ((r : List ℕ) → A r → Ends version r) → A []
against version text tokens A p s f ends =
    let o = one_split version s.pieces f.pieces text [] f.rest s.split (ends-empty version)
    f.split (ends f.rest f.bad) in
    subst A (sym o.1) f.bad

-- A text is pieces up to its end, or up to where no token starts or a large number does.
pub record Ending (version : Version) (text : List ℕ) : Type 0 where
  pub pieces : List Piece
  pub rest : List ℕ
  pub split : Splits version pieces text rest
  pub end : (rest ≡ []) ⊎ (NoToken version rest ⊎ LargeNumber version rest)

ending-scanned : (version : Version) (n : ℕ) (text : List ℕ) → length text ≤ n + 1 → text ≢ []
    → ((more : List ℕ) → length more ≤ n → Ending version more) → (r : Result Piece Kind)
    → scan version text ≡ r → Sound version text r → Ending version text
ending-scanned version n text l some further (Ok p) e s =
    let begins = s.0.1 in
    let i = further s.0.0 (omega (arith, l, s.2, simp length-append at (ap length begins.whole))) in
    record {
      pieces = p ∷ i.pieces;
      rest = i.rest;
      split = (s.0.0, begins, s.1, i.split);
      end = i.end;
    }
ending-scanned version n text l some further (Err k) e (inl is) =
    record {
      pieces = [];
      rest = text;
      split = refl;
      end = inr (inl (some, scan-none version text (rw is at e)));
    }
ending-scanned version n text l some further (Err k) e (inr (is, large)) =
    record { pieces = []; rest = text; split = refl; end = inr (inr large) }

pub ending : (version : Version) (n : ℕ) (text : List ℕ) → length text ≤ n → Ending version text
ending version n [] l = record { pieces = []; rest = []; split = refl; end = inl refl }
ending version zero (b ∷ t) l = absurd (omega (arith, l))
ending version (suc n) (b ∷ t) l =
    ending-scanned version n (b ∷ t) (omega (arith, l)) (λ e. cc)
    (λ more m. ending version n more m)
    (scan version (b ∷ t)) refl (scan-sound version (b ∷ t) (λ e. cc))

some_outcome : (version : Version) (text : List ℕ)
    → ((t : TokensOfText) × AreTokensIn version t text)
    ⊎ ((fault : Fault) × (place : ℕ) × IsFirstFaultIn version fault place text)
some_outcome version text = by_length (leb (length text) 1048576) refl
  where
    ended : length text ≤ 1048576 → (i : Ending version text)
        → (end : (i.rest ≡ []) ⊎ (NoToken version i.rest ⊎ LargeNumber version i.rest))
        → ((t : TokensOfText) × AreTokensIn version t text)
        ⊎ ((fault : Fault) × (place : ℕ) × IsFirstFaultIn version fault place text)
    ended s i (inl e) =
        inl (
          record { list = tokens_at 0 i.pieces; length = length text },
          record {
            short = s;
            stand = record { pieces = i.pieces; split = rw e at i.split; tokens_are = refl };
            length_is = refl;
          },
        )
    ended s i (inr (inl none)) =
        inr (
          no_token,
          length text - length i.rest,
          (
            s,
            record {
              pieces = i.pieces;
              rest = i.rest;
              split = i.split;
              bad = none;
              place_is = omega (arith, splits-total version i.pieces text i.rest i.split);
            },
          ),
        )
    ended s i (inr (inr large)) =
        inr (
          large_number,
          length text - length i.rest,
          (
            s,
            record {
              pieces = i.pieces;
              rest = i.rest;
              split = i.split;
              bad = large;
              place_is = omega (arith, splits-total version i.pieces text i.rest i.split);
            },
          ),
        )

    by_length : (v : Bool) → leb (length text) 1048576 ≡ v
        → ((t : TokensOfText) × AreTokensIn version t text)
        ⊎ ((fault : Fault) × (place : ℕ) × IsFirstFaultIn version fault place text)
    by_length true e =
        let i = ending version (length text) text (omega arith) in
        ended (grind (arith, nat_tests)) i i.end
    by_length false e = inr (too_long, 1048576, (grind (arith, nat_tests), refl))

same_tokens : (t u : TokensOfText) → t.list ≡ u.list → t.length ≡ u.length → t ≡ u
same_tokens t u e f = ap₂ make e f
  where
    make : List Token → ℕ → TokensOfText
    make list bytes = record { list = list; length = bytes }

clash : (version : Version) (rest : List ℕ) → NoToken version rest → LargeNumber version rest → ⊥
clash version rest none (n, word, more, b, l) = none.1 _ more b

pub outcome : (version : Version) (text : List ℕ)
    → IsOneOutcome (λ t. AreTokensIn version t text)
    (λ fault place. IsFirstFaultIn version fault place text)
outcome version text = record {
  some = some_outcome version text;
  one_list = λ t u a b.
      let o = one_split version a.stand.pieces b.stand.pieces text [] []
      a.stand.split (ends-empty version) b.stand.split (ends-empty version) in
      let e : tokens_at 0 a.stand.pieces ≡ tokens_at 0 b.stand.pieces = ap (tokens_at 0) o.0 in
      let list : t.list ≡ u.list = a.stand.tokens_are ∙ e ∙ sym b.stand.tokens_are in
      let bytes : t.length ≡ u.length = a.length_is ∙ sym b.length_is in
      same_tokens t u list bytes;
  not_both = λ t fault place a f. never t a fault place f;
  one_fault = λ one other place elsewhere f g. same one other place elsewhere f g;
}
  where
    never : (t : TokensOfText) → AreTokensIn version t text → (fault : Fault) (place : ℕ)
        → IsFirstFaultIn version fault place text → ⊥
    never t a too_long place f = omega (arith, a.short, f.0)
    never t a no_token place f =
        (against version text t.list (NoToken version) place a.stand f.1 (ends-none version)).0 refl
    never t a large_number place f =
        let l = found-large version [] (against version text t.list (LargeNumber version) place
        a.stand f.1 (ends-large version)) in
        cc

    same : (one other : Fault) (p q : ℕ) → IsFirstFaultIn version one p text
        → IsFirstFaultIn version other q text → (one ≡ other) × (p ≡ q)
    same too_long too_long p q f g = (refl, f.1 ∙ sym g.1)
    same too_long no_token p q f g = absurd (omega (arith, f.0, g.0))
    same too_long large_number p q f g = absurd (omega (arith, f.0, g.0))
    same no_token too_long p q f g = absurd (omega (arith, f.0, g.0))
    same large_number too_long p q f g = absurd (omega (arith, f.0, g.0))
    same no_token no_token p q f g =
        (refl, (meet version text _ _ p q f.1 g.1 (ends-none version) (ends-none version)).place)
    same large_number large_number p q f g =
        (refl, (meet version text _ _ p q f.1 g.1 (ends-large version) (ends-large version)).place)
    same no_token large_number p q f g =
        let m = meet version text _ _ p q f.1 g.1 (ends-none version) (ends-large version) in
        absurd (clash version m.rest m.one m.other)
    same large_number no_token p q f g =
        let m = meet version text _ _ p q f.1 g.1 (ends-large version) (ends-none version) in
        absurd (clash version m.rest m.other m.one)

-- An answer that is sound is the only one, but for want of memory.
pub reads :
    (Are : TokensOfText → Type 0) (Is : Fault → ℕ → Type 0) (result : Result TokensOfText Front)
    → IsOneOutcome Are Is → IfOk result Are → IfErr result (Names Is) → (t : TokensOfText) → Are t
    → IsOrMemory (Ok t) result
reads Are Is (Ok u) o ok err t a = inl (ap Ok (o.one_list u t ok a))
reads Are Is (Err front.Memory) o ok err t a = inr refl
reads Are Is (Err (front.Refused k place)) o ok err t a = absurd (o.not_both t err.0 place a err.2)

pub refuses :
    (Are : TokensOfText → Type 0) (Is : Fault → ℕ → Type 0) (result : Result TokensOfText Front)
    → IsOneOutcome Are Is → IfOk result Are → IfErr result (Names Is) → (fault : Fault) (place : ℕ)
    → Is fault place → IsOrMemory (Err (front.Refused (kind_of fault) place)) result
refuses Are Is (Ok u) o ok err fault place f = absurd (o.not_both u fault place ok f)
refuses Are Is (Err front.Memory) o ok err fault place f = inr refl
refuses Are Is (Err (front.Refused k at)) o ok err fault place f =
    let same = o.one_fault err.0 fault at place err.2 f in
    inl (rw (err.1, same.0, same.1) refl)
