use Rattle.std.proofs.Common.{inl, inr, refl, sym, arith}
use Rattle.book_store.proofs.waiting.chosen.Goals as goal

pub returns : goal.returns
returns c =
    let small = c.number_of-number.ensures.small in
    inr (record {
      pat = c.args.pat.now;
      within = inl refl;
      number = sym c.number_of-number.ensures.is;
      bare = c.has_number.ensures c.if-has_number.false;
      low = omega arith;
      other = c.if-number-but.false;
    })
