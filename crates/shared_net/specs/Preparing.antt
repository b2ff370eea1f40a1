-- What stands behind the locks of a run at its opening.
use Rattle.std.specs.Prelude.{◌≡◌, ℕ, ◌==◌, List, [], ◌∷◌, Some, cond, length, slice_get}
use Rattle.wire_packet.specs.MessageFacts.{MessageParts}
use Rattle.env_store.specs.CodeParts.{CodeParts}
use Rattle.loc_tree.specs.Tree.{Tree}
use Rattle.net_laws.specs.Site.{Site}
use Rattle.net_laws.specs.Net.{Addressed}
use Rattle.net_laws.specs.Opened.{opened_net}
use Rattle.site_turn.specs.Mail.{AreSpelled}
use Rattle.site_turn.specs.After.{IsSameTree}

-- the messages that go to the site with this number, in order
abbrev pub messages_to : ℕ → List Addressed → List MessageParts
messages_to i [] = []
messages_to i (p ∷ ps) = cond (p.target == i) (p.msg ∷ messages_to i ps) (messages_to i ps)

-- the mail of each site spells the messages that go to it
abbrev pub IsMailOf : List Addressed → List (List (List ℕ)) → Type 0
IsMailOf ps mails =
    (i : ℕ) (mail : List (List ℕ)) → slice_get mails i ≡ Some mail
    → AreSpelled (messages_to i ps) mail

-- sites and tree are those of the network that the code opens for a program of this version, and
-- what the openings send is the mail of the sites, one mail for each
pub record IsOpenedAs (version : ℕ) (c : CodeParts) (t : Tree) (sites : List Site)
    (mails : List (List (List ℕ))) : Type 0 where
  pub tree : IsSameTree (opened_net version c).tree t
  pub sites_are : sites ≡ (opened_net version c).sites
  pub boxes : length mails ≡ length sites
  pub mail : IsMailOf (opened_net version c).packets mails
