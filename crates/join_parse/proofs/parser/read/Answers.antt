use Rattle.std.proofs.Common.{◌∷◌, [], ◌∙◌, false, refl, arith}
use Rattle.join_parse.specs.Begins.{AName, ASite, Body, Sites, Program}
use Rattle.join_parse.specs.inside.Parsed.{AtMost, Exactly}
use Rattle.join_parse.proofs.Moves.{halts-before}
use Rattle.join_parse.proofs.Whole.{exit-stop, program-runs, behind-stop, end-whole, whole-sentence}
use Rattle.join_parse.proofs.parser.read.Goals as goal

pub returns-in_err-seen-clause-stops : goal.returns-in_err-seen-clause-stops
returns-in_err-seen-clause-stops c =
    exit-stop c.args.b c.args.tokens.now c.opening_len-begin.result c.opening_len-begin.ensures.runs
    (AtMost c.args.b.levels) (omega arith) c.from_residual.result c.in_err-seen.field-0.0
    c.from_residual.ensures.1 c.in_err-seen.ensures.fails

pub returns-in_err-sites-clause-stops : goal.returns-in_err-sites-clause-stops
returns-in_err-sites-clause-stops c =
    exit-stop c.args.b c.args.tokens.now c.opening_len-begin.result c.opening_len-begin.ensures.runs
    (Exactly 0) refl c.from_residual-in_err-sites.result c.in_err-sites.field-0.0
    c.from_residual-in_err-sites.ensures.1
    (halts-before c.args.b (Exactly 0) c.args.tokens.now c.opening_len-begin.result (Program ∷ [])
    (Exactly 0) c.in_ok-seen.upto (ASite ∷ AName ∷ Body false ∷ Sites ∷ []) (λ stack. stack)
    c.in_err-sites.field-0.0
    (program-runs c.args.b c.args.tokens.now c.opening_len-begin.result c.in_ok-seen.upto
    c.in_ok-seen.ensures.runs c.in_ok-seen.ensures.all) (λ stack h. h) c.in_err-sites.ensures.fails)

pub returns-then-upto-tokens-clause-stops : goal.returns-then-upto-tokens-clause-stops
returns-then-upto-tokens-clause-stops c =
    rw c.refused.ensures (c.opening_len-begin.ensures.runs
    ∙ program-runs c.args.b c.args.tokens.now c.opening_len-begin.result c.in_ok-seen.upto
    c.in_ok-seen.ensures.runs c.in_ok-seen.ensures.all [] refl
    ∙ c.in_ok-sites.ensures.reads.runs [] refl
    ∙ behind-stop c.args.b c.args.tokens.now c.in_ok-sites.upto c.if-upto-tokens.true)

pub returns-clause-whole : goal.returns-clause-whole
returns-clause-whole c =
    c.opening_len-begin.ensures.runs
    ∙ program-runs c.args.b c.args.tokens.now c.opening_len-begin.result c.in_ok-seen.upto
    c.in_ok-seen.ensures.runs c.in_ok-seen.ensures.all [] refl
    ∙ c.in_ok-sites.ensures.reads.runs [] refl
    ∙ end-whole c.args.b c.args.tokens.now c.in_ok-sites.upto c.if-upto-tokens.false

pub returns-clause-sentence : goal.returns-clause-sentence
returns-clause-sentence c =
    whole-sentence c.args.tokens.now c.args.b.second c.opening_len-begin.result c.in_ok-seen.upto
    c.in_ok-sites.upto c.in_ok-seen.seen c.in_ok-sites.sites
    c.opening_len-begin.ensures.spelled c.in_ok-seen.ensures.spelled c.in_ok-sites.ensures.spelled
    c.if-upto-tokens.false c.in_ok-seen.ensures.small c.in_ok-sites.ensures.some
    c.in_ok-sites.ensures.sites
