-- Assumes nothing.
use Rattle.std.proofs.Common.{◌≡◌, ℕ, ◌<◌, List, Bool, true, false, refl, sym, subst, zero-le, arith}
use Rattle.std.proofs.lemmas.Grind.{common_steps}
use Rattle.area.specs.Pick.{pick}
use Rattle.keys.specs.Text.{unidentified, full, text_from}
use Rattle.keys.specs.declared.NativeKeyCode.TheVariants.{Windows}
use Rattle.lookup.specs.Layout.{key_in}
use Rattle.session.specs.Builder.{typed_key, finalize, press_event}
use Rattle.session.specs.InBlock.{FitsIn, plain_in, info_in, event_in}
use Rattle.session.specs.Limits.{KEY_TEXT_MOST}
use Rattle.session.specs.declared.PartialKeyEventInfo.{PartialKeyEventInfo}
use Rattle.session.proofs.Ranges.{unidentified_fits}
use Rattle.event.specs.PressKey.{press_key}
use Rattle.event.proofs.key_event.press_event.Goals as goal

pressed :
    (block : List ℕ) (n : PartialKeyEventInfo) (mark : Bool) → n.scancode < 65536 → FitsIn block n.logical_key →
    (key_in block (press_key n mark) ≡ pick mark (unidentified (Windows n.scancode)) (key_in block n.logical_key)) × FitsIn block (press_key n mark)
unfolding full
pressed block n true h f = (refl, unidentified_fits KEY_TEXT_MOST n.scancode h)
pressed block n false h f = (refl, f)

pub returns : goal.returns
unfolding event_in plain_in info_in press_event finalize typed_key text_from
returns c = λ block i vkey.
    let key = pressed block c.args.n c.args.mark (omega arith) i.logical_key in (
      grind (arith, common_steps, key.0),
      record {
        logical_key = subst (λ k. FitsIn block k) (sym c.press_key-logical_key.ensures) key.1;
        text = zero-le;
        key_without_modifiers = i.key_without_modifiers;
      },
    )
