use Rattle.std.proofs.Common.{◌≡◌, List, ℕ, length, sym, subst, rules}
use Rattle.chem_model.specs.Each.{Each}
use Rattle.net_laws.specs.Site.{Site}
use Rattle.net_laws.specs.Opened.{opened_net}
use Rattle.site_turn.specs.Mail.{IsMessageText}
use Rattle.shared_net.specs.Preparing.{IsOpenedAs}
use Rattle.shared_net.specs.inside.Beginning.{AreFirstMails}
use Rattle.shared_net.proofs.Opening.{mails_spelled, opened_as}
use Rattle.shared_net.proofs.preparing.prepare.Goals as goal

pub returns-clause-opened : goal.returns-clause-opened
returns-clause-opened g c =
    let version = c.args.program.now.version in
    let code = c.args.code.now in
    let o = c.in_ok-opened.opened in
    let mails = c.in_ok-mails.mails.items in
    let many : c.len.result ≡ length o.sites.items = search rules in
    let first : AreFirstMails (length o.sites.items) o.handed.items mails =
    subst (λ (k : ℕ). AreFirstMails k o.handed.items mails) many c.in_ok-mails.ensures in
    let is : IsOpenedAs version code o.tree o.sites.items mails =
    opened_as version code o mails (c.in_ok-opened.ensures version) first in
    subst (λ (ss : List Site). IsOpenedAs version code o.tree ss c.from_vec-2.result)
    (sym c.from_vec.ensures)
    (subst (IsOpenedAs version code o.tree o.sites.items) (sym c.from_vec-2.ensures) is)

pub returns-clause-mail : goal.returns-clause-mail
returns-clause-mail g c =
    let version = c.args.program.now.version in
    let code = c.args.code.now in
    let o = c.in_ok-opened.opened in
    let mails = c.in_ok-mails.mails.items in
    let many : c.len.result ≡ length o.sites.items = search rules in
    let first : AreFirstMails (length o.sites.items) o.handed.items mails =
    subst (λ (k : ℕ). AreFirstMails k o.handed.items mails) many c.in_ok-mails.ensures in
    let is : IsOpenedAs version code o.tree o.sites.items mails =
    opened_as version code o mails (c.in_ok-opened.ensures version) first in
    subst (Each (Each IsMessageText)) (sym c.from_vec-2.ensures)
    (mails_spelled (opened_net version code).packets mails is.mail)
