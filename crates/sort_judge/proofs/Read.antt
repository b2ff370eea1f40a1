-- What was read of a source is what it told.
use Rattle.std.proofs.Common.{◌≡◌, ℕ, ◌<◌, ◌≤◌, ◌⊎◌, inl, inr, List, ◌++◌, Option, Some, None, refl}
use Rattle.std.proofs.Common.{sym, ap, ◌∙◌, subst, arith, length, length-append}
use Rattle.std.proofs.lemmas.List.{append-nil}
use Rattle.std.specs.Prelude.{codes}
use Rattle.std.specs.Fmt.{digits}
use Rattle.std.specs.Io.KnownBytes.{Consumes, IsAtEnd}
use Rattle.join_base.specs.declared.fault.Kind.TheVariants.{Lex1}
use Rattle.join_base.specs.Bytes.{TakesCount}
use Rattle.join_lex.specs.Tokens.{TokensOfText}
use Rattle.join_lex.specs.Lexical.{Fault, too_long, AreTokensOf, IsFirstFault}
use Rattle.join_lex.proofs.VersionLaws.{whole-outcome}
use Rattle.text_program.specs.Streams.{OnTold}
use Rattle.text_program.specs.Text.{IsRefusal, lexical, refusal_line}
use Rattle.sort_judge.specs.Command.{IsReadWhole}

pub told : (P : List ℕ → Type 0) (old new : Option (List ℕ)) (text : List ℕ) → Consumes old new text
    → IsAtEnd new → P text → OnTold old P
told P None new text h e p = tt
told P (Some bytes) None text h e p = absurd h
told P (Some bytes) (Some rest) text h e p =
    let is : bytes ≡ text = h ∙ ap (λ (xs : List ℕ). text ++ xs) e ∙ append-nil text in
    subst P (sym is) p

pub whole : (old new : Option (List ℕ)) (text : List ℕ) → Consumes old new text → IsAtEnd new
    → length text ≤ 1048576 → IsReadWhole old new
whole old new text h e short = ((text, h, short), e)

-- ---- a text of which one byte more than the limit was taken

-- whichever its version, that is its first fault
first_long : (text : List ℕ) → 1048576 < length text → IsFirstFault too_long 1048576 text
first_long text long = of (whole-outcome text).some
  where
    of :
        ((t : TokensOfText) × AreTokensOf t text)
        ⊎ ((fault : Fault) × (place : ℕ) × IsFirstFault fault place text)
        → IsFirstFault too_long 1048576 text
    of (inl (t, (version, is, tokens))) = let short = tokens.short in absurd (omega arith)
    of (inr (fault, place, (version, is, first))) = (version, is, (long, refl))

pub long_refused : (old new : Option (List ℕ)) → TakesCount old new 1048577
    → OnTold old (λ text. IsRefusal text Lex1 1048576)
long_refused None new h = tt
long_refused (Some text) None h = absurd h.1
long_refused (Some text) (Some rest) h = lexical (
  too_long,
  refl,
  first_long text (let whole = ap length h.1 in omega (arith, whole, length-append h.0 rest, h.2)),
)

pub long_line : refusal_line Lex1 1048576 ≡ codes "lex 1 at 1048576\n"
unfolding digits
long_line = refl
