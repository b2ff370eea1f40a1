use Rattle.join_lex.specs.declared.token.Sign.TheVariants as sign
use Rattle.join_parse.specs.Terminals.{a_sign}
use Rattle.join_parse.specs.Grammar.{patterns}
use Rattle.join_parse.proofs.LeftToPrint.{left_patterns}
use Rattle.join_parse.specs.Grammar.{applied}
use Rattle.join_parse.proofs.Prints.{member-prints, patterns-law}
use Rattle.join_parse.proofs.print.put_patterns.Goals as goal

pub loop-pattern-preserved : goal.loop-pattern-preserved
loop-pattern-preserved c =
    member-prints left_patterns (λ p rest. applied p.on p.params rest) (a_sign sign.Bar)
    patterns-law (patterns c.as_slice-pattern-items.result.now) c.args.out.now c.loop-pattern.out
    c.put_sign_between.new.out c.put_applied.new.out c.loop-pattern.first
    c.as_slice-pattern-items.result.now c.loop-pattern.pattern-index c.pattern-item.result
    c.loop-pattern-test.true c.pattern-item.is c.loop-pattern.invariant
    c.in_ok-put_sign_between.ensures c.in_ok-put_applied.ensures
