-- A text of which one byte more than the limit was taken is refused as too long.
use Rattle.std.proofs.Common.{◌≡◌, ◌<◌, ◌⊎◌, inl, inr, ℕ, List, Option, Some, None, refl, sym, ap}
use Rattle.std.proofs.Common.{subst, arith, length, length-append}
use Rattle.std.specs.Prelude.{codes}
use Rattle.std.specs.Fmt.{digits}
use Rattle.join_base.specs.declared.fault.Kind.TheVariants.{Lex1}
use Rattle.join_base.specs.Bytes.{TakesCount}
use Rattle.join_lex.specs.Tokens.{TokensOfText}
use Rattle.join_lex.specs.Lexical.{Fault, too_long, AreTokensOf, IsFirstFault}
use Rattle.join_lex.proofs.VersionLaws.{whole-outcome}
use Rattle.join_top.specs.Task.{text_of}
use Rattle.text_program.specs.Text.{IsRefusal, lexical, refusal_line}
use Rattle.text_program.specs.Streams.{OnTold}
use Rattle.join_top.specs.RunJoin.{IsRefused}

-- that is its first fault, whichever its version
first_long : (text : List ℕ) → 1048576 < length text → IsFirstFault too_long 1048576 text
first_long text long = of (whole-outcome text).some
  where
    of :
        ((t : TokensOfText) × AreTokensOf t text)
        ⊎ ((fault : Fault) × (place : ℕ) × IsFirstFault fault place text)
        → IsFirstFault too_long 1048576 text
    of (inl (t, (version, is, tokens))) = let short = tokens.short in absurd (omega arith)
    of (inr (fault, place, (version, is, first))) = (version, is, (long, refl))

pub long_refused : (old new : Option (List ℕ)) → TakesCount old new 1048577
    → OnTold old (λ text. IsRefusal text Lex1 1048576)
long_refused None new h = tt
long_refused (Some text) None h = absurd h.1
long_refused (Some text) (Some rest) h = lexical (
  too_long,
  refl,
  first_long text (let whole = ap length h.1 in omega (arith, whole, length-append h.0 rest, h.2)),
)

-- the text that is run is the one that is read
pub refused_long : (ring : Option ℕ) (told new : Option (List ℕ)) (gains : List ℕ → Type 0)
    → ring ≡ None → TakesCount told new 1048577 → gains (refusal_line Lex1 1048576)
    → IsRefused (text_of ring told) gains
refused_long ring told new gains e h g =
    let refused : IsRefused told gains =
    record { kind = Lex1; place = 1048576; refusal = long_refused told new h; line = g } in
    subst (λ (r : Option ℕ). IsRefused (text_of r told) gains) (sym e) refused

pub long_line : refusal_line Lex1 1048576 ≡ codes "lex 1 at 1048576\n"
unfolding digits
long_line = refl
