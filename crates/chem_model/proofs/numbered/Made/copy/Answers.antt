use Rattle.chem_model.proofs.numbered.Made.copy.Goals as goal

pub returns : goal.returns
returns c = λ i. record {
  next = c.args.self.now.next;
  births = c.in_ok-births.ensures i;
  named = c.in_ok-named.ensures i;
  rules = c.in_ok-rules.ensures i;
  atoms = c.in_ok-atoms.ensures i;
  outs = c.in_ok-outs.ensures i;
}
