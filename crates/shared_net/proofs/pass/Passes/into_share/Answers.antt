use Rattle.std.proofs.Common.{◌≡◌, [], ◌∷◌, ◌++◌, length, length-append, ap, sym, ◌∙◌, arith}
use Rattle.shared_net.proofs.Agreeing.{all-last}
use Rattle.shared_net.proofs.pass.Passes.into_share.Goals as goal

pub loop-pass-init : goal.loop-pass-init
loop-pass-init g c =
    let is : c.args.self ≡ c.pop.new.self.items ++ c.in-Some.last ∷ [] =
    sym c.self.view_is ∙ c.in-Some.ensures.items in
    record {
      parts = omega (
        arith,
        c.into_share-all.ensures.part,
        ap length is,
        length-append c.pop.new.self.items (c.in-Some.last ∷ []),
      );
      amount = omega (
        arith,
        c.into_share-all.ensures.amount,
        all-last c.args.self c.pop.new.self.items c.in-Some.last is,
      );
    }

pub loop-pass-preserved : goal.loop-pass-preserved
loop-pass-preserved g c =
    let is : c.loop-pass.left.items ≡ c.pop-in-loop-pass.new.self.items ++ c.in-Some-pop.pass ∷ [] =
    c.in-Some-pop.ensures.items in
    record {
      parts = omega (
        arith,
        c.merge.ensures.parts,
        c.into_share.ensures.part,
        c.loop-pass.invariant.parts,
        ap length is,
        length-append c.pop-in-loop-pass.new.self.items (c.in-Some-pop.pass ∷ []),
      );
      amount = omega (
        arith,
        c.merge.ensures.amount,
        c.into_share.ensures.amount,
        c.loop-pass.invariant.amount,
        all-last c.loop-pass.left.items c.pop-in-loop-pass.new.self.items c.in-Some-pop.pass is,
      );
    }
