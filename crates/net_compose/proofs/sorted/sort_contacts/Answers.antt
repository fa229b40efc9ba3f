use Rattle.std.proofs.Common.{length, arith}
use Rattle.std.proofs.lemmas.Iterator.Adapters.{YieldsList-from_vec}
use Rattle.std.proofs.lemmas.Iterator.Consumers.{YieldsList-turn, YieldsList-end}
use Rattle.net_compose.specs.Contacts.{sent_by, taken_by, written_by}
use Rattle.net_compose.proofs.ContactsSorted.{contact_within, number_within, picked_more, all_picked, lists_same}
use Rattle.net_compose.proofs.sorted.sort_contacts.Goals as goal

pub add_contact-requires-clause-number : goal.add_contact-requires-clause-number
add_contact-requires-clause-number c =
    let g = c.into_iter-contact-iterator.ensures.into_iter_gives in
    let t = YieldsList-turn (YieldsList-from_vec {s = c.into_iter-contact-iterator.result} c.args.contacts.items g.0 (omega
    (arith, g.1, c.args.contacts.ok.0))) c.loop-contact.yielded c.loop-contact.contact-iterator c.loop-contact.yielded_by c.next.result c.next.new.self
    c.in-Some.contact c.in-Some.is c.next.ensures.steps in
    let declared = contact_within (length c.args.program.now.channels) (length c.args.program.now.vars) c.args.contacts.items c.requires
    (length c.loop-contact.yielded) c.in-Some.contact t.0 t.1 in
    number_within c.loop-contact.sorted (length c.args.program.now.channels) (length c.args.program.now.vars) c.in-Some.contact
    c.loop-contact.invariant.lists declared

pub loop-contact-preserved : goal.loop-contact-preserved
loop-contact-preserved c = record {
  lists = lists_same c.loop-contact.sorted (length c.args.program.now.channels) (length c.args.program.now.vars) _ c.loop-contact.invariant.lists
      c.add_contact.ensures.lists;
  sent = λ k. picked_more (sent_by k) c.loop-contact.yielded c.in-Some.contact _ _ (c.in_ok-add_contact.ensures.sent k) (c.loop-contact.invariant.sent k);
  taken = λ k. picked_more (taken_by k) c.loop-contact.yielded c.in-Some.contact _ _ (c.in_ok-add_contact.ensures.taken k) (c.loop-contact.invariant.taken k);
  written = λ x. picked_more (written_by x) c.loop-contact.yielded c.in-Some.contact _ _ (c.in_ok-add_contact.ensures.written x)
      (c.loop-contact.invariant.written x);
}

pub returns : goal.returns
returns c =
    let g = c.into_iter-contact-iterator.ensures.into_iter_gives in
    let t = YieldsList-end (YieldsList-from_vec {s = c.into_iter-contact-iterator.result} c.args.contacts.items g.0 (omega
    (arith, g.1, c.args.contacts.ok.0))) c.loop-contact.yielded c.loop-contact.contact-iterator c.loop-contact.yielded_by c.next.result c.next.new.self
    c.in-None.is c.next.ensures.steps in
    record {
      lists = c.loop-contact.invariant.lists;
      sent = λ k. all_picked (sent_by k) c.args.contacts.items c.loop-contact.yielded _ t.0 (c.loop-contact.invariant.sent k);
      taken = λ k. all_picked (taken_by k) c.args.contacts.items c.loop-contact.yielded _ t.0 (c.loop-contact.invariant.taken k);
      written = λ x. all_picked (written_by x) c.args.contacts.items c.loop-contact.yielded _ t.0 (c.loop-contact.invariant.written x);
    }
