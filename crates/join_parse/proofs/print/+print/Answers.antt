use Rattle.std.proofs.Common.{◌∷◌, ◌∙◌, sym, rules}
use Rattle.std.proofs.lemmas.Bool.{false≢true}
use Rattle.std.proofs.lemmas.Result.{on_ok_weaker}
use Rattle.join_lex.specs.declared.token.Key.TheVariants as key
use Rattle.join_lex.specs.declared.token.Sign.TheVariants as sign
use Rattle.join_parse.specs.Terminals.{a_key, a_sign}
use Rattle.join_parse.specs.Source.{processes, definitions}
use Rattle.join_parse.specs.Grammar.{nowhere, of_process, of_processes, of_definition}
use Rattle.join_parse.specs.Grammar.{of_definitions}
use Rattle.join_parse.specs.Members.{procs_depth-member, defs_depth-member}
use Rattle.join_parse.proofs.Prints.{member-prints, left_members, members-law, left_clauses}
use Rattle.join_parse.proofs.Prints.{clauses-law, definitions-begin}
use Rattle.join_parse.proofs.print.+print.Goals as goal

pub put_processes-put_process-requires : goal.put_processes-put_process-requires
put_processes-put_process-requires t c =
    let falls = rw c.as_slice-member-items.ensures.members at
    (procs_depth-member c.as_slice-member-items.result.now c.loop-member.member-index
    c.member-item.result c.loop-member-test.true c.member-item.is) in
    (search (rules, falls), tt)

pub put_definitions-put_definition-requires : goal.put_definitions-put_definition-requires
put_definitions-put_definition-requires t c =
    let falls = rw c.as_slice-member-items.ensures.members at
    (defs_depth-member c.as_slice-member-items.result.now c.loop-member.member-index
    c.member-item.result c.loop-member-test.true c.member-item.is) in
    (search (rules, falls), tt)

pub put_definitions-loop-member-init : goal.put_definitions-loop-member-init
put_definitions-loop-member-init t c = λ rest. definitions-begin c.as_slice-member-items.result.now
    (λ e. false≢true (c.if-is_empty.ensures.1 (sym c.as_slice-member-items.ensures.members ∙ e)))
    c.args.out.now rest

pub put_place-returns : goal.put_place-returns
put_place-returns t c =
    on_ok_weaker c.put_sign-3.result
    (λ p rest. c.in_ok-put_word.ensures (a_sign sign.SquareLeft
    ∷ of_definitions nowhere (definitions c.args.place.now.defs) (a_sign sign.Colon
    ∷ of_processes nowhere (processes c.args.place.now.body) (a_sign sign.SquareRight ∷ rest)))
    ∙ c.in_ok-put_sign.ensures
    (of_definitions nowhere (definitions c.args.place.now.defs) (a_sign sign.Colon
    ∷ of_processes nowhere (processes c.args.place.now.body) (a_sign sign.SquareRight ∷ rest)))
    ∙ c.in_ok-put_definitions.ensures (a_sign sign.Colon
    ∷ of_processes nowhere (processes c.args.place.now.body) (a_sign sign.SquareRight ∷ rest))
    ∙ c.in_ok-put_sign-2.ensures
    (of_processes nowhere (processes c.args.place.now.body) (a_sign sign.SquareRight ∷ rest))
    ∙ c.in_ok-put_processes.ensures (a_sign sign.SquareRight ∷ rest) ∙ p rest)
    c.put_sign-3.ensures

pub put_processes-loop-member-preserved : goal.put_processes-loop-member-preserved
put_processes-loop-member-preserved t c =
    member-prints left_members (of_process nowhere) (a_sign sign.Bar) members-law
    (of_processes nowhere (processes c.as_slice-member-items.result.now)) c.args.out.now
    c.loop-member.out c.put_sign_between.new.out c.put_process.new.out c.loop-member.first
    c.as_slice-member-items.result.now c.loop-member.member-index c.member-item.result
    c.loop-member-test.true c.member-item.is c.loop-member.invariant
    c.in_ok-put_sign_between.ensures c.in_ok-put_process.ensures

pub put_definitions-loop-member-preserved : goal.put_definitions-loop-member-preserved
put_definitions-loop-member-preserved t c =
    member-prints left_clauses (of_definition nowhere) (a_key key.And) clauses-law
    (of_definitions nowhere (definitions c.as_slice-member-items.result.now)) c.args.out.now
    c.loop-member.out c.put_and_between.new.out c.put_definition.new.out c.loop-member.first
    c.as_slice-member-items.result.now c.loop-member.member-index c.member-item.result
    c.loop-member-test.true c.member-item.is c.loop-member.invariant c.in_ok-put_and_between.ensures
    c.in_ok-put_definition.ensures
