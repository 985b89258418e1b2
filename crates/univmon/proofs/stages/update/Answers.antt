-- `univmon::stages::update` meets its contract.
use Prim.Native.Nat.{ℕ}
use mathlib.Core.Path.{◌≡◌, sym, ap, ◌∙◌}
use mathlib.Core.List.{List}
use lib.ListN.{length}
use lib.IntN.{nat_abs}
use mir.Facts.{to_z-of_z}
use Rattle.header.specs.Header.{head_of}
use Rattle.layout.specs.Slices.{lent, Lent}
use Rattle.univmon.specs.inner.Needs.{sound_in}
use Rattle.words.specs.Tests.{number}
use Rattle.std.proofs.lemmas.Result.{err_from_is_err_and}
use Rattle.refusal.specs.Refusals.{number_of, refused}
use Rattle.refusal.proofs.Numbers.{number-ne0}
use Rattle.univmon.proofs.Updating.{key-ready, after_unsound, after_unbegun, after-begun, key-told}
use Rattle.layout.specs.Answers.{list_left}
use Rattle.layout.specs.Outcomes.{left}
use Rattle.layout.proofs.Telling.{list-kept}
use Rattle.univmon.proofs.stages.update.Goals as goal
use Rattle.univmon.proofs.stages.update.Goals.{After-magnitude, In_ok-check_sound, Start}

-- the state that is lent
abbrev lent_of : Start → Lent
lent_of c = lent (head_of c.args.scalars c.args.lens.now c.args.flags.now) c.args.counters.now c.args.norms.now c.args.entries.now c.args.counts.now

-- header, lengths and record were found right
sound : (c : In_ok-check_sound) → number (sound_in (lent (head_of c.args.scalars c.args.lens.now c.args.flags.now) c.args.counters.now c.args.norms.now c.args.entries.now c.args.counts.now) c.args.«record».now) ≡ 0
sound c = sym c.in_ok-check_sound.ensures

weight_is : (c : After-magnitude) → c.magnitude.result ≡ nat_abs c.args.weight
weight_is c = rw (to_z-of_z c.ranges.weight) at c.magnitude.ensures

pub returns-in_err-check_sound : goal.returns-in_err-check_sound
returns-in_err-check_sound c =
    let a = c.args in
    let p = err_from_is_err_and c.from_residual.result c.from_residual.ensures.1 in
    let e = c.in_err-check_sound.field-0.0 in
    rw (p.1, p.2) (record {
      counts_value = after_unsound a.kind (refused a.begins) a.«record».now a.weight (length a.list.now) (lent_of (goal.at.returns-in_err-check_sound c).Start) (number_of e) c.in_err-check_sound.ensures (number-ne0 e);
      list_after = list-kept _ _ _ (number-ne0 e);
    })

pub returns-in_err-begins : goal.returns-in_err-begins
returns-in_err-begins c =
    let a = c.args in
    let r = lent_of (goal.at.returns-in_err-begins c).Start in
    let p = err_from_is_err_and c.from_residual-in_err-begins.result c.from_residual-in_err-begins.ensures.1 in
    let e = c.in_err-begins.field-0.0 in
    let z : refused a.begins ≡ number_of e = ap refused c.in_err-begins.was in
    rw (p.1, p.2) (record {
      counts_value = ap (λ (n : ℕ). left n r) (sym z) ∙ after_unbegun a.kind (refused a.begins) a.«record».now a.weight (length a.list.now) r (sound (goal.at.returns-in_err-begins c).In_ok-check_sound) (λ q. number-ne0 e (sym z ∙ q));
      list_after = list-kept _ _ _ (number-ne0 e);
    })

pub send_key-requires : goal.send_key-requires
send_key-requires c =
    let a = c.args in
    rw (weight_is (goal.at.send_key-requires c).After-magnitude) (record {
      key_ready = key-ready (lent_of (goal.at.send_key-requires c).Start) a.«record».now (nat_abs a.weight) (sound (goal.at.send_key-requires c).In_ok-check_sound) (c.requires (ap refused c.in_ok-begins.was));
      bottom_hash_value = c.bottom_word-bottom_hash.ensures;
    })

pub returns : goal.returns
returns c =
    let a = c.args in
    let n = refused c.send_key.result in record {
      counts_value = rw (weight_is (goal.at.returns c).After-magnitude) at c.send_key.ensures.counts_value ∙ after-begun a.kind (refused a.begins) a.«record».now a.weight (length a.list.now) (lent_of (goal.at.returns c).Start) (sound (goal.at.returns c).In_ok-check_sound) (ap refused c.in_ok-begins.was);
      list_after = rw (weight_is (goal.at.returns c).After-magnitude) at c.send_key.ensures.list_after ∙ ap (λ (t : List ℕ). list_left n t a.list.now) (key-told a.kind a.«record».now a.weight (lent_of (goal.at.returns c).Start));
    }
