-- A node that comes back over its own journal is sound, and stands for the restart of its records.
use Rattle.std.proofs.Common.{◌≡◌, ℕ, ◌<◌, ◌≤◌, List, [], Bool, None, map, reverse, length, get_or, refl, sym, ap, subst, ◌∙◌, arith}
use Rattle.std.proofs.lemmas.List.{reverse-reverse}
use Rattle.std.proofs.lemmas.List.Elements.{All-map}
use Rattle.authenticators.specs.Ring.{Ring, IsWhole}
use Rattle.protocol.specs.Tags.{Validator}
use Rattle.protocol.specs.Messages.{Act, Body, Bundle, Record, Own, body_of}
use Rattle.protocol.specs.Records.{act_of}
use Rattle.protocol.specs.Refusals.{context}
use Rattle.protocol.specs.Restart.{own_since, restart, opened}
use Rattle.protocol.specs.declared.records.OwnMessage.{OwnMessage}
use Rattle.protocol.specs.Effects.{bundles_in}
use Rattle.round_states.specs.Machine.{Machine, Agrees}
use Rattle.height_catchup.specs.Kept.{IsInPlace}
use Rattle.height_catchup.proofs.Places.{in_place}
use Rattle.vote_journal.specs.Grammar.{IsRecord}
use Rattle.vote_journal.specs.Layout.{IsWhole as IsWholeJournal}
use Rattle.vote_journal.specs.Laws.{IsLawful}
use Rattle.vote_journal.specs.Kept.{journal_of, IsToldBy, AreReplayable}
use Rattle.vote_journal.proofs.Kept.{told, lawful_opened, kept_holds}
use Rattle.vote_journal.specs.Order.{AreLawful}
use Rattle.vote_journal.proofs.Layouts.{lawful_records}
use Rattle.vote_journal.proofs.Stops.{one_journal, whole_is_journal}
use Rattle.node_core.specs.Core.{Stands, IsSaid, IsSound, setting}
use Rattle.node_core.specs.Opening.{IsRead, running, unfired}
use Rattle.node_core.proofs.Firings.{act_own}

-- the records of a whole journal are in order
lawful_read : (powers : List ℕ) (me : ℕ) (bytes : List ℕ) (rs : List Record) → IsWholeJournal powers me bytes rs → AreLawful powers me [] rs
lawful_read powers me bytes rs whole = subst (AreLawful powers me []) whole.records (lawful_records powers me [] whole.entries whole.lawful)

-- ---- what is read back has a spelling

said_spelled : (me h r : ℕ) (act : Act) → IsRecord me (Own h r act) → IsSaid me (body_of me h r act)
said_spelled me h r act is = record { spelled = is.0; own = act_own me h r act }

-- ---- the node

-- a validator of which nothing is known yet
pub begun_agrees : (powers : List ℕ) (me : ℕ) (ring : Ring) (m : Machine) → m ≡ record { state = restart me []; powers = powers; me = me; genuine = []; room = None } → Agrees (context (setting powers me ring) me) m
unfolding restart setting
begun_agrees powers me ring m is = rw is (record { powers = refl; me = refl; genuine = refl })

pub agreed_powers : (powers : List ℕ) (me : ℕ) (ring : Ring) (m : Machine) → Agrees (context (setting powers me ring) me) m → m.powers ≡ powers
unfolding setting
agreed_powers powers me ring m a = a.powers

-- the bodies of own messages
abbrev pub bodies_by : ℕ → List OwnMessage → List Body
bodies_by me own = map (λ (m : OwnMessage). body_of me m.height m.round (act_of m.act)) own

module _ (powers : List ℕ) (me : ℕ) (bytes : List ℕ) (decisions : List Bundle) (own : List OwnMessage) (read : IsRead powers me bytes decisions own) where
  abbrev journal : List Record
  journal = reverse read.records

  tells : IsToldBy me journal decisions own
  tells = told me read.records decisions own read.keeps

  abbrev machine_with : List Bool → Machine
  machine_with genuine = record { state = restart me journal; powers = powers; me = me; genuine = genuine; room = None }

  same_machine : (ring : Ring) (m : Machine) → Agrees (context (setting powers me ring) me) m → m.state ≡ restart me (journal_of decisions own) → m.room ≡ None → machine_with m.genuine ≡ m
  unfolding setting
  same_machine ring m a is none = λ i. record { state = (tells.state ∙ sym is) i; powers = sym a.powers i; me = sym a.me i; genuine = m.genuine; room = sym none i }

  stands_with : (ring : Ring) (genuine : List Bool) (failures : ℕ) (rs : List Record) → IsWholeJournal powers me bytes rs → Stands (opened me (reverse rs)) (unfired (machine_with genuine) ring decisions (bodies_by me own) (running me bytes failures))
  stands_with ring genuine failures rs whole =
      let one : read.records ≡ rs = one_journal powers me bytes read.records rs (whole_is_journal powers me bytes read.records read.whole) (whole_is_journal powers me bytes rs whole) in
      record {
        state = ap (λ (x : List Record). restart me (reverse x)) one;
        queues = refl;
        decisions = read.keeps.decided ∙ ap (λ (x : List Record). bundles_in (reverse x)) one;
        said = sym tells.messages ∙ ap (λ (x : List Record). own_since me (reverse x)) one;
        journal = λ _. rw (reverse-reverse rs) whole;
      }

  lawful_at : (ring : Ring) → IsLawful (setting powers me ring) me (opened me journal)
  unfolding setting
  lawful_at ring = lawful_opened (setting powers me ring) me read.records (lawful_read powers me bytes read.records read.whole)

  sound_with : (ring : Ring) (genuine : List Bool) (failures : ℕ) → ring.me ≡ Validator me → ring.count ≡ length powers → me < length powers → IsWhole ring → length powers ≤ 128
      → AreReplayable me decisions own → Agrees (context (setting powers me ring) me) (machine_with genuine)
      → IsSound (unfired (machine_with genuine) ring decisions (bodies_by me own) (running me bytes failures))
  unfolding restart
  sound_with ring genuine failures owner count number whole few r agrees = record {
    owner = owner;
    count = count;
    me = number;
    whole = whole;
    few = few;
    agrees = agrees;
    room = refl;
    waiting = λ t i. absurd i;
    stamps = λ k d lt. absurd (omega (arith, lt));
    decided = sym tells.height;
    joined = tells.delivered;
    spelled = λ k d lt. (r.spelled k d lt).fits;
    own = λ k d lt. (r.spelled k d lt).sender;
    said = All-map (IsSaid me) (λ (m : OwnMessage). body_of me m.height m.round (act_of m.act)) own (λ k d lt. let m = get_or own k d in said_spelled me m.height m.round (act_of m.act) (r.own_spelled k d lt));
    journal = refl;
    kept = λ _. record {
      records = journal;
      decisions = read.keeps.decided;
      said = sym tells.messages;
      whole = rw (reverse-reverse read.records) read.whole;
      lawful = lawful_at ring;
    };
  }

  -- ---- where the machine is what was made of the journal

  pub back_stands : (ring : Ring) (m : Machine) (bodies : List Body) (failures : ℕ) (rs : List Record) → Agrees (context (setting powers me ring) me) m → m.state ≡ restart me (journal_of decisions own) → m.room ≡ None → bodies ≡ bodies_by me own
      → IsWholeJournal powers me bytes rs → Stands (opened me (reverse rs)) (unfired m ring decisions bodies (running me bytes failures))
  back_stands ring m bodies failures rs a is none said_is whole =
      subst (λ (x : Machine). Stands (opened me (reverse rs)) (unfired x ring decisions bodies (running me bytes failures))) (same_machine ring m a is none)
      (subst (λ (x : List Body). Stands (opened me (reverse rs)) (unfired (machine_with m.genuine) ring decisions x (running me bytes failures))) (sym said_is) (stands_with ring m.genuine failures rs whole))

  pub back_sound : (ring : Ring) (m : Machine) (bodies : List Body) (failures : ℕ) → ring.me ≡ Validator me → ring.count ≡ length powers → me < length powers → IsWhole ring → length powers ≤ 128
      → AreReplayable me decisions own → Agrees (context (setting powers me ring) me) m → m.state ≡ restart me (journal_of decisions own) → m.room ≡ None → bodies ≡ bodies_by me own
      → IsSound (unfired m ring decisions bodies (running me bytes failures))
  back_sound ring m bodies failures owner count number whole few r a is none said_is =
      let same = same_machine ring m a is none in
      subst (λ (x : Machine). IsSound (unfired x ring decisions bodies (running me bytes failures))) same
      (subst (λ (x : List Body). IsSound (unfired (machine_with m.genuine) ring decisions x (running me bytes failures))) (sym said_is)
      (sound_with ring m.genuine failures owner count number whole few r (subst (Agrees (context (setting powers me ring) me)) (sym same) a)))

-- ---- what an opening kept can be replayed

pub replayable : (powers : List ℕ) (me : ℕ) (bytes : List ℕ) (decisions : List Bundle) (own : List OwnMessage) → IsRead powers me bytes decisions own → AreReplayable me decisions own
replayable powers me bytes decisions own read = (kept_holds me read.records decisions own read.keeps).1 powers (lawful_read powers me bytes read.records read.whole)

pub placed : (powers : List ℕ) (me : ℕ) (bytes : List ℕ) (decisions : List Bundle) (own : List OwnMessage) → IsRead powers me bytes decisions own → IsInPlace decisions
placed powers me bytes decisions own read = in_place decisions (replayable powers me bytes decisions own read).heights
