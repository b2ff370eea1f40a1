use Rattle.std.proofs.Common.{◌∷◌}
use Rattle.join_lex.specs.declared.token.Sign.TheVariants as sign
use Rattle.join_parse.specs.Terminals.{a_sign, argument}
use Rattle.join_parse.specs.Grammar.{arguments}
use Rattle.join_parse.proofs.LeftToPrint.{left_args}
use Rattle.join_parse.proofs.Prints.{member-prints, args-law}
use Rattle.join_parse.proofs.print.put_args.Goals as goal

pub loop-arg-preserved : goal.loop-arg-preserved
loop-arg-preserved c =
    member-prints left_args (λ v rest. argument v ∷ rest) (a_sign sign.Comma) args-law
    (arguments c.as_slice-arg-items.result.now)
    c.args.out.now c.loop-arg.out c.put_sign_between.new.out c.put_arg.new.out c.loop-arg.first
    c.as_slice-arg-items.result.now c.loop-arg.arg-index c.arg-item.result c.loop-arg-test.true
    c.arg-item.is c.loop-arg.invariant c.in_ok-put_sign_between.ensures c.in_ok-put_arg.ensures
