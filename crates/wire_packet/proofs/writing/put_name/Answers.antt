use Rattle.std.proofs.Common.{[], ◌∷◌}
use Rattle.wire_packet.specs.Spelling.{pair}
use Rattle.wire_packet.proofs.Appends.{put_two, put_three}
use Rattle.wire_packet.proofs.writing.put_name.Goals as goal

pub returns-in_ok-put_pair-in-Place-clause-is : goal.returns-in_ok-put_pair-in-Place-clause-is
returns-in_ok-put_pair-in-Place-clause-is c =
    rw c.in-Place.is
    (put_two c.args.out.now _ _ (1 ∷ []) (pair c.in-Place.loc.site c.in-Place.loc.k)
    c.in_ok-push-in-Place.ensures.ok c.in_ok-put_pair-in-Place.ensures.is)

pub returns-in_ok-put_pair-in-Chan-2-clause-is : goal.returns-in_ok-put_pair-in-Chan-2-clause-is
returns-in_ok-put_pair-in-Chan-2-clause-is c =
    rw c.in-Chan.is (put_three c.args.out.now _ _ _ (2 ∷ []) (pair c.in-Chan.site c.in-Chan.k)
    (pair c.in-Chan.home.site c.in-Chan.home.k)
    c.in_ok-push-in-Chan.ensures.ok c.in_ok-put_pair-in-Chan.ensures.is
    c.in_ok-put_pair-in-Chan-2.ensures.is)
