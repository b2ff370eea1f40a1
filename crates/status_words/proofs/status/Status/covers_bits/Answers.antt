use Rattle.std.proofs.Common.{subst, sym}
use Rattle.status_words.specs.inside.Kept.{AreIn}
use Rattle.status_words.proofs.KeptWords.{covers-from, covers-to}
use Rattle.status_words.proofs.status.Status.covers_bits.Goals as goal

pub returns : goal.returns
returns c =
    let words = c.self.inside.words.items in
    let size = c.self.inside.bits in
    rw (← c.self.view_is) (
      λ yes. covers-from c.args.mask.now words size c.self.invariant
          (subst (AreIn c.args.mask.now) c.deref.ensures.value (c.are_in.ensures.0 yes)),
      λ covers. c.are_in.ensures.1 (subst (AreIn c.args.mask.now) (sym c.deref.ensures.value)
          (covers-to c.args.mask.now words size covers)),
    )
