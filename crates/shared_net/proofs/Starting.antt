-- As many sites are opened as the program has.
use Rattle.std.proofs.Common.{◌≡◌, ℕ, List, length, refl, ap, arith}
use Rattle.chem_model.specs.ProgramFacts.{ProgramTerms}
use Rattle.env_store.specs.CodeParts.{CodeParts}
use Rattle.env_store.specs.Reading.{IsCodeOf}
use Rattle.loc_tree.specs.Tree.{Tree}
use Rattle.net_laws.specs.Site.{Site}
use Rattle.net_laws.specs.Opened.{unopened}
use Rattle.site_turn.proofs.Openings.{opened_long}
use Rattle.shared_net.specs.Preparing.{IsOpenedAs}

pub sites_long :
    (p : ProgramTerms) (c : CodeParts) (t : Tree) (sites : List Site) (mails : List (List (List ℕ)))
    → IsCodeOf p c → IsOpenedAs p.version c t sites mails → length sites ≡ length p.sites
sites_long p c t sites mails code opened =
    let none : length (unopened p.version c).sites ≡ 0 = refl in
    let all = opened_long c 0 c.sites (unopened p.version c) in
    omega (arith, ap length opened.sites_are, all, none, code.no_other_sites)
