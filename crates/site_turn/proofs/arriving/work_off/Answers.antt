use Rattle.std.proofs.Common.{refl}
use Rattle.net_laws.proofs.Holds.{each_get}
use Rattle.site_turn.specs.Mail.{IsMessageText}
use Rattle.site_turn.proofs.Results.{on_err}
use Rattle.site_turn.proofs.Coming.{none_came, one_came, all_came, some_came, member_at}
use Rattle.site_turn.proofs.arriving.work_off.Goals as goal

pub loop-text-init : goal.loop-text-init
loop-text-init c = record {
  come =
      none_came c.args.tree.now c.args.site.now c.args.mail.now c.args.site.now c.new-on.result refl
      c.new-on.ensures;
  fit = λ code act. act;
}

pub take_text-requires : goal.take_text-requires
take_text-requires c =
    let at = member_at c.args.mail.now c.loop-text.text-index c.text-item.result
    c.loop-text-test.true c.text-item.is in
    each_get IsMessageText c.args.mail.now c.loop-text.text-index c.text-item.result at c.requires

pub loop-text-preserved : goal.loop-text-preserved
loop-text-preserved c =
    let at = member_at c.args.mail.now c.loop-text.text-index c.text-item.result
    c.loop-text-test.true c.text-item.is in
    record {
      come =
          one_came c.args.tree.now c.args.site.now c.args.mail.now c.loop-text.text-index
          c.loop-text.site c.loop-text.on c.text-item.result c.take_text.new.site
          c.take_text.new.on c.loop-text.invariant.come at c.in_ok-take_text.ensures.ok;
      fit = λ code act. c.in_ok-take_text.ensures.fit code (c.loop-text.invariant.fit code act);
    }

pub returns-in_err-take_text-clause-err : goal.returns-in_err-take_text-clause-err
returns-in_err-take_text-clause-err c = on_err _ _ (
    some_came c.args.tree.now c.args.site.now c.args.mail.now c.loop-text.text-index
    c.loop-text.site c.take_text.new.site c.loop-text.on c.in_err-take_text.ensures.err
    c.loop-text.invariant.come)

pub returns-clause-ok : goal.returns-clause-ok
returns-clause-ok c =
    all_came c.args.tree.now c.args.site.now c.args.mail.now c.loop-text.text-index c.loop-text.site
    c.loop-text.on c.loop-text-test.false c.loop-text.invariant.come
