use Rattle.std.proofs.Common.{◌≡◌, ◌∙◌, arith, ℕ, Bool, List, [], ◌∷◌, ◌++◌, true, false, map, length, sym, ap}
use Rattle.std.specs.Prelude.{if◌then◌else◌}
use Rattle.std.specs.List.{list_any}
use Rattle.std.specs.Str.{bytes_eq}
use Rattle.std.proofs.lemmas.Bool.{not-true, not-false}
use Rattle.std.proofs.lemmas.List.{length-map}
use Rattle.messages.specs.Grammar.{body_spelling}
use Rattle.messages.specs.Framing.{frame_spelling}
use Rattle.world_schedule.specs.Cores.{frame_in}
use Rattle.world_schedule.specs.Standings.{sayer}
use Rattle.world_schedule.proofs.Numbered.{any_key, pushed}
use Rattle.world_schedule.proofs.numbering.Messages.number.Goals as goal

pub returns-then-not-is_new : goal.returns-then-not-is_new
returns-then-not-is_new c = λ s numbered h e.
    let body = c.args.message.now.body in
    let old = c.args.self.now.bodies.keys in
    let spelled : c.in_ok-body.body.items ≡ body_spelling body = c.in_ok-body.ensures.items_if_clones_equal (λ x y z. z) ∙ c.body_in.ensures in
    let among = any_key (λ v. v.items) old numbered body c.in_ok-body.body.items spelled h.bodies in
    let there : list_any (λ k. bytes_eq c.in_ok-body.body.items k.items) old ≡ true = not-false _ (sym c.in_ok-is_new.ensures.added ∙ c.if-not-is_new.true) in
    let same : c.insert_full.new.self.keys ≡ old = c.in_ok-is_new.ensures.keys ∙ ap (λ (b : Bool). if b then old else (old ++ c.in_ok-body.body ∷ [])) there in
    (sym among ∙ there, record { bodies = ap (map (λ v. v.items)) same ∙ h.bodies; frames = h.frames; sayers = h.sayers })

pub returns : goal.returns
returns c = λ s numbered h e.
    let body = c.args.message.now.body in
    let old = c.args.self.now.bodies.keys in
    let spelled : c.in_ok-body.body.items ≡ body_spelling body = c.in_ok-body.ensures.items_if_clones_equal (λ x y z. z) ∙ c.body_in.ensures in
    let among = any_key (λ v. v.items) old numbered body c.in_ok-body.body.items spelled h.bodies in
    let absent : list_any (λ k. bytes_eq c.in_ok-body.body.items k.items) old ≡ false = not-true _ (sym c.in_ok-is_new.ensures.added ∙ c.if-not-is_new.false) in
    let longer : c.insert_full.new.self.keys ≡ old ++ c.in_ok-body.body ∷ [] = c.in_ok-is_new.ensures.keys ∙ ap (λ (b : Bool). if b then old else (old ++ c.in_ok-body.body ∷ [])) absent in
    let size : length c.args.self.now.posted.items ≡ length numbered = sym (length-map _ _) ∙ ap (λ (l : List (List ℕ)). length l) h.frames ∙ length-map _ _ in
    let framed = c.in_ok-to_vec.ensures.items_if_clones_equal (λ x y z. z) ∙ c.requires ∙ ap frame_spelling e in (
      sym among ∙ absent,
      omega (arith, c.len-number.ensures, size, c.args.self.now.posted.ok),
      record {
        bodies = pushed (λ v. v.items) body_spelling old c.insert_full.new.self.keys c.in_ok-body.body numbered body longer h.bodies spelled;
        frames = pushed (λ f. f.frame.items) (frame_in s) c.args.self.now.posted.items c.push.new.self.items _ numbered body c.in_ok-push.ensures.items h.frames framed;
        sayers = pushed (λ f. f.sayer) sayer c.args.self.now.posted.items c.push.new.self.items _ numbered body c.in_ok-push.ensures.items h.sayers c.sayer.ensures;
      },
    )
