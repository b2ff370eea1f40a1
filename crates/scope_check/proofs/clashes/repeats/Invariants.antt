use Rattle.std.proofs.Common.{◌≡◌, drop}
use Rattle.join_base.specs.declared.fault.Kind.TheVariants.{Scope4}
use Rattle.scope_check.specs.inside.Order.{first_of}
use Rattle.scope_check.specs.inside.Clashes.{remember_all, repeats_in}
use Rattle.scope_check.proofs.clashes.repeats.Given as goal

abbrev pub invariant-loop-word : goal.invariant-loop-word
invariant-loop-word l = record {
  table : remember_all l.so_far (drop l.word-index l.words) ≡ remember_all l.initial.so_far l.words;
  least :
      first_of l.least (repeats_in Scope4 l.so_far (drop l.word-index l.words))
      ≡ first_of l.initial.least (repeats_in Scope4 l.initial.so_far l.words);
}
