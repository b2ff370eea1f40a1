use Rattle.std.proofs.Common.{ap, ◌∙◌, sym}
use Rattle.status_words.specs.inside.Kept.{all_in}
use Rattle.status_words.proofs.KeptWords.{in-from, in-to}
use Rattle.status_words.proofs.sparse.Bits.are_in.Goals as goal

pub returns : goal.returns
returns c =
    let is = c.all_in.ensures ∙ ap (all_in c.args.held.now) c.deref.ensures.value in
    rw (← c.self.view_is) (
      λ yes. in-from c.self.inside.words.items c.self.inside.count c.args.held.now c.self.invariant
          (sym is ∙ yes),
      λ all. is ∙ in-to c.self.inside.words.items c.self.inside.count c.args.held.now
          c.self.invariant all,
    )
