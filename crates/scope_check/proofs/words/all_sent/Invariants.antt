use Rattle.std.proofs.Common.{◌≡◌, ◌++◌, drop}
use Rattle.scope_check.specs.inside.Order.{first_of}
use Rattle.scope_check.specs.inside.Twin.{args_in, sent_in}
use Rattle.scope_check.proofs.words.all_sent.Given as goal

abbrev pub invariant-loop-arg : goal.invariant-loop-arg
invariant-loop-arg l = record {
  value : l.refs ++ args_in l.env (drop l.arg-index l.args) ≡ args_in l.env l.args;
  faults :
      first_of l.least (sent_in l.env (drop l.arg-index l.args))
      ≡ first_of l.initial.least (sent_in l.env l.args);
}
