-- A key code's place in tao's KeyCode, and the key code at a place.
-- Assumes nothing.
use Rattle.std.specs.Prelude.{ℕ, List, [], ◌∷◌}
use Rattle.area.specs.Look.{assoc}
use Rattle.keys.specs.declared.NativeKeyCode.{NativeKeyCode}
use Rattle.keys.specs.declared.NativeKeyCode.TheVariants as nat
use Rattle.keys.specs.declared.key_code.KeyCode.{KeyCode}
use Rattle.keys.specs.declared.key_code.KeyCode.TheVariants as kc

-- how many cases there are
abbrev pub code_cases : ℕ
code_cases = 195

-- the place of the case, from 0
unfoldable pub code_number : KeyCode → ℕ
code_number (kc.Unidentified c) = 0
code_number kc.Backquote = 1
code_number kc.Backslash = 2
code_number kc.BracketLeft = 3
code_number kc.BracketRight = 4
code_number kc.Comma = 5
code_number kc.Digit0 = 6
code_number kc.Digit1 = 7
code_number kc.Digit2 = 8
code_number kc.Digit3 = 9
code_number kc.Digit4 = 10
code_number kc.Digit5 = 11
code_number kc.Digit6 = 12
code_number kc.Digit7 = 13
code_number kc.Digit8 = 14
code_number kc.Digit9 = 15
code_number kc.Equal = 16
code_number kc.IntlBackslash = 17
code_number kc.IntlRo = 18
code_number kc.IntlYen = 19
code_number kc.KeyA = 20
code_number kc.KeyB = 21
code_number kc.KeyC = 22
code_number kc.KeyD = 23
code_number kc.KeyE = 24
code_number kc.KeyF = 25
code_number kc.KeyG = 26
code_number kc.KeyH = 27
code_number kc.KeyI = 28
code_number kc.KeyJ = 29
code_number kc.KeyK = 30
code_number kc.KeyL = 31
code_number kc.KeyM = 32
code_number kc.KeyN = 33
code_number kc.KeyO = 34
code_number kc.KeyP = 35
code_number kc.KeyQ = 36
code_number kc.KeyR = 37
code_number kc.KeyS = 38
code_number kc.KeyT = 39
code_number kc.KeyU = 40
code_number kc.KeyV = 41
code_number kc.KeyW = 42
code_number kc.KeyX = 43
code_number kc.KeyY = 44
code_number kc.KeyZ = 45
code_number kc.Minus = 46
code_number kc.Plus = 47
code_number kc.Period = 48
code_number kc.Quote = 49
code_number kc.Semicolon = 50
code_number kc.Slash = 51
code_number kc.AltLeft = 52
code_number kc.AltRight = 53
code_number kc.Backspace = 54
code_number kc.CapsLock = 55
code_number kc.ContextMenu = 56
code_number kc.ControlLeft = 57
code_number kc.ControlRight = 58
code_number kc.Enter = 59
code_number kc.SuperLeft = 60
code_number kc.SuperRight = 61
code_number kc.ShiftLeft = 62
code_number kc.ShiftRight = 63
code_number kc.Space = 64
code_number kc.Tab = 65
code_number kc.Convert = 66
code_number kc.KanaMode = 67
code_number kc.Lang1 = 68
code_number kc.Lang2 = 69
code_number kc.Lang3 = 70
code_number kc.Lang4 = 71
code_number kc.Lang5 = 72
code_number kc.NonConvert = 73
code_number kc.Delete = 74
code_number kc.End = 75
code_number kc.Help = 76
code_number kc.Home = 77
code_number kc.Insert = 78
code_number kc.PageDown = 79
code_number kc.PageUp = 80
code_number kc.ArrowDown = 81
code_number kc.ArrowLeft = 82
code_number kc.ArrowRight = 83
code_number kc.ArrowUp = 84
code_number kc.NumLock = 85
code_number kc.Numpad0 = 86
code_number kc.Numpad1 = 87
code_number kc.Numpad2 = 88
code_number kc.Numpad3 = 89
code_number kc.Numpad4 = 90
code_number kc.Numpad5 = 91
code_number kc.Numpad6 = 92
code_number kc.Numpad7 = 93
code_number kc.Numpad8 = 94
code_number kc.Numpad9 = 95
code_number kc.NumpadAdd = 96
code_number kc.NumpadBackspace = 97
code_number kc.NumpadClear = 98
code_number kc.NumpadClearEntry = 99
code_number kc.NumpadComma = 100
code_number kc.NumpadDecimal = 101
code_number kc.NumpadDivide = 102
code_number kc.NumpadEnter = 103
code_number kc.NumpadEqual = 104
code_number kc.NumpadHash = 105
code_number kc.NumpadMemoryAdd = 106
code_number kc.NumpadMemoryClear = 107
code_number kc.NumpadMemoryRecall = 108
code_number kc.NumpadMemoryStore = 109
code_number kc.NumpadMemorySubtract = 110
code_number kc.NumpadMultiply = 111
code_number kc.NumpadParenLeft = 112
code_number kc.NumpadParenRight = 113
code_number kc.NumpadStar = 114
code_number kc.NumpadSubtract = 115
code_number kc.Escape = 116
code_number kc.Fn = 117
code_number kc.FnLock = 118
code_number kc.PrintScreen = 119
code_number kc.ScrollLock = 120
code_number kc.Pause = 121
code_number kc.BrowserBack = 122
code_number kc.BrowserFavorites = 123
code_number kc.BrowserForward = 124
code_number kc.BrowserHome = 125
code_number kc.BrowserRefresh = 126
code_number kc.BrowserSearch = 127
code_number kc.BrowserStop = 128
code_number kc.Eject = 129
code_number kc.LaunchApp1 = 130
code_number kc.LaunchApp2 = 131
code_number kc.LaunchMail = 132
code_number kc.MediaPlayPause = 133
code_number kc.MediaSelect = 134
code_number kc.MediaStop = 135
code_number kc.MediaTrackNext = 136
code_number kc.MediaTrackPrevious = 137
code_number kc.Power = 138
code_number kc.Sleep = 139
code_number kc.AudioVolumeDown = 140
code_number kc.AudioVolumeMute = 141
code_number kc.AudioVolumeUp = 142
code_number kc.WakeUp = 143
code_number kc.Hyper = 144
code_number kc.Turbo = 145
code_number kc.Abort = 146
code_number kc.Resume = 147
code_number kc.Suspend = 148
code_number kc.Again = 149
code_number kc.Copy = 150
code_number kc.Cut = 151
code_number kc.Find = 152
code_number kc.Open = 153
code_number kc.Paste = 154
code_number kc.Props = 155
code_number kc.Select = 156
code_number kc.Undo = 157
code_number kc.Hiragana = 158
code_number kc.Katakana = 159
code_number kc.F1 = 160
code_number kc.F2 = 161
code_number kc.F3 = 162
code_number kc.F4 = 163
code_number kc.F5 = 164
code_number kc.F6 = 165
code_number kc.F7 = 166
code_number kc.F8 = 167
code_number kc.F9 = 168
code_number kc.F10 = 169
code_number kc.F11 = 170
code_number kc.F12 = 171
code_number kc.F13 = 172
code_number kc.F14 = 173
code_number kc.F15 = 174
code_number kc.F16 = 175
code_number kc.F17 = 176
code_number kc.F18 = 177
code_number kc.F19 = 178
code_number kc.F20 = 179
code_number kc.F21 = 180
code_number kc.F22 = 181
code_number kc.F23 = 182
code_number kc.F24 = 183
code_number kc.F25 = 184
code_number kc.F26 = 185
code_number kc.F27 = 186
code_number kc.F28 = 187
code_number kc.F29 = 188
code_number kc.F30 = 189
code_number kc.F31 = 190
code_number kc.F32 = 191
code_number kc.F33 = 192
code_number kc.F34 = 193
code_number kc.F35 = 194

-- the native code that an unidentified key code holds
unfoldable pub code_native : KeyCode → NativeKeyCode
code_native (kc.Unidentified c) = c
code_native kc.Backquote = nat.Unidentified
code_native kc.Backslash = nat.Unidentified
code_native kc.BracketLeft = nat.Unidentified
code_native kc.BracketRight = nat.Unidentified
code_native kc.Comma = nat.Unidentified
code_native kc.Digit0 = nat.Unidentified
code_native kc.Digit1 = nat.Unidentified
code_native kc.Digit2 = nat.Unidentified
code_native kc.Digit3 = nat.Unidentified
code_native kc.Digit4 = nat.Unidentified
code_native kc.Digit5 = nat.Unidentified
code_native kc.Digit6 = nat.Unidentified
code_native kc.Digit7 = nat.Unidentified
code_native kc.Digit8 = nat.Unidentified
code_native kc.Digit9 = nat.Unidentified
code_native kc.Equal = nat.Unidentified
code_native kc.IntlBackslash = nat.Unidentified
code_native kc.IntlRo = nat.Unidentified
code_native kc.IntlYen = nat.Unidentified
code_native kc.KeyA = nat.Unidentified
code_native kc.KeyB = nat.Unidentified
code_native kc.KeyC = nat.Unidentified
code_native kc.KeyD = nat.Unidentified
code_native kc.KeyE = nat.Unidentified
code_native kc.KeyF = nat.Unidentified
code_native kc.KeyG = nat.Unidentified
code_native kc.KeyH = nat.Unidentified
code_native kc.KeyI = nat.Unidentified
code_native kc.KeyJ = nat.Unidentified
code_native kc.KeyK = nat.Unidentified
code_native kc.KeyL = nat.Unidentified
code_native kc.KeyM = nat.Unidentified
code_native kc.KeyN = nat.Unidentified
code_native kc.KeyO = nat.Unidentified
code_native kc.KeyP = nat.Unidentified
code_native kc.KeyQ = nat.Unidentified
code_native kc.KeyR = nat.Unidentified
code_native kc.KeyS = nat.Unidentified
code_native kc.KeyT = nat.Unidentified
code_native kc.KeyU = nat.Unidentified
code_native kc.KeyV = nat.Unidentified
code_native kc.KeyW = nat.Unidentified
code_native kc.KeyX = nat.Unidentified
code_native kc.KeyY = nat.Unidentified
code_native kc.KeyZ = nat.Unidentified
code_native kc.Minus = nat.Unidentified
code_native kc.Plus = nat.Unidentified
code_native kc.Period = nat.Unidentified
code_native kc.Quote = nat.Unidentified
code_native kc.Semicolon = nat.Unidentified
code_native kc.Slash = nat.Unidentified
code_native kc.AltLeft = nat.Unidentified
code_native kc.AltRight = nat.Unidentified
code_native kc.Backspace = nat.Unidentified
code_native kc.CapsLock = nat.Unidentified
code_native kc.ContextMenu = nat.Unidentified
code_native kc.ControlLeft = nat.Unidentified
code_native kc.ControlRight = nat.Unidentified
code_native kc.Enter = nat.Unidentified
code_native kc.SuperLeft = nat.Unidentified
code_native kc.SuperRight = nat.Unidentified
code_native kc.ShiftLeft = nat.Unidentified
code_native kc.ShiftRight = nat.Unidentified
code_native kc.Space = nat.Unidentified
code_native kc.Tab = nat.Unidentified
code_native kc.Convert = nat.Unidentified
code_native kc.KanaMode = nat.Unidentified
code_native kc.Lang1 = nat.Unidentified
code_native kc.Lang2 = nat.Unidentified
code_native kc.Lang3 = nat.Unidentified
code_native kc.Lang4 = nat.Unidentified
code_native kc.Lang5 = nat.Unidentified
code_native kc.NonConvert = nat.Unidentified
code_native kc.Delete = nat.Unidentified
code_native kc.End = nat.Unidentified
code_native kc.Help = nat.Unidentified
code_native kc.Home = nat.Unidentified
code_native kc.Insert = nat.Unidentified
code_native kc.PageDown = nat.Unidentified
code_native kc.PageUp = nat.Unidentified
code_native kc.ArrowDown = nat.Unidentified
code_native kc.ArrowLeft = nat.Unidentified
code_native kc.ArrowRight = nat.Unidentified
code_native kc.ArrowUp = nat.Unidentified
code_native kc.NumLock = nat.Unidentified
code_native kc.Numpad0 = nat.Unidentified
code_native kc.Numpad1 = nat.Unidentified
code_native kc.Numpad2 = nat.Unidentified
code_native kc.Numpad3 = nat.Unidentified
code_native kc.Numpad4 = nat.Unidentified
code_native kc.Numpad5 = nat.Unidentified
code_native kc.Numpad6 = nat.Unidentified
code_native kc.Numpad7 = nat.Unidentified
code_native kc.Numpad8 = nat.Unidentified
code_native kc.Numpad9 = nat.Unidentified
code_native kc.NumpadAdd = nat.Unidentified
code_native kc.NumpadBackspace = nat.Unidentified
code_native kc.NumpadClear = nat.Unidentified
code_native kc.NumpadClearEntry = nat.Unidentified
code_native kc.NumpadComma = nat.Unidentified
code_native kc.NumpadDecimal = nat.Unidentified
code_native kc.NumpadDivide = nat.Unidentified
code_native kc.NumpadEnter = nat.Unidentified
code_native kc.NumpadEqual = nat.Unidentified
code_native kc.NumpadHash = nat.Unidentified
code_native kc.NumpadMemoryAdd = nat.Unidentified
code_native kc.NumpadMemoryClear = nat.Unidentified
code_native kc.NumpadMemoryRecall = nat.Unidentified
code_native kc.NumpadMemoryStore = nat.Unidentified
code_native kc.NumpadMemorySubtract = nat.Unidentified
code_native kc.NumpadMultiply = nat.Unidentified
code_native kc.NumpadParenLeft = nat.Unidentified
code_native kc.NumpadParenRight = nat.Unidentified
code_native kc.NumpadStar = nat.Unidentified
code_native kc.NumpadSubtract = nat.Unidentified
code_native kc.Escape = nat.Unidentified
code_native kc.Fn = nat.Unidentified
code_native kc.FnLock = nat.Unidentified
code_native kc.PrintScreen = nat.Unidentified
code_native kc.ScrollLock = nat.Unidentified
code_native kc.Pause = nat.Unidentified
code_native kc.BrowserBack = nat.Unidentified
code_native kc.BrowserFavorites = nat.Unidentified
code_native kc.BrowserForward = nat.Unidentified
code_native kc.BrowserHome = nat.Unidentified
code_native kc.BrowserRefresh = nat.Unidentified
code_native kc.BrowserSearch = nat.Unidentified
code_native kc.BrowserStop = nat.Unidentified
code_native kc.Eject = nat.Unidentified
code_native kc.LaunchApp1 = nat.Unidentified
code_native kc.LaunchApp2 = nat.Unidentified
code_native kc.LaunchMail = nat.Unidentified
code_native kc.MediaPlayPause = nat.Unidentified
code_native kc.MediaSelect = nat.Unidentified
code_native kc.MediaStop = nat.Unidentified
code_native kc.MediaTrackNext = nat.Unidentified
code_native kc.MediaTrackPrevious = nat.Unidentified
code_native kc.Power = nat.Unidentified
code_native kc.Sleep = nat.Unidentified
code_native kc.AudioVolumeDown = nat.Unidentified
code_native kc.AudioVolumeMute = nat.Unidentified
code_native kc.AudioVolumeUp = nat.Unidentified
code_native kc.WakeUp = nat.Unidentified
code_native kc.Hyper = nat.Unidentified
code_native kc.Turbo = nat.Unidentified
code_native kc.Abort = nat.Unidentified
code_native kc.Resume = nat.Unidentified
code_native kc.Suspend = nat.Unidentified
code_native kc.Again = nat.Unidentified
code_native kc.Copy = nat.Unidentified
code_native kc.Cut = nat.Unidentified
code_native kc.Find = nat.Unidentified
code_native kc.Open = nat.Unidentified
code_native kc.Paste = nat.Unidentified
code_native kc.Props = nat.Unidentified
code_native kc.Select = nat.Unidentified
code_native kc.Undo = nat.Unidentified
code_native kc.Hiragana = nat.Unidentified
code_native kc.Katakana = nat.Unidentified
code_native kc.F1 = nat.Unidentified
code_native kc.F2 = nat.Unidentified
code_native kc.F3 = nat.Unidentified
code_native kc.F4 = nat.Unidentified
code_native kc.F5 = nat.Unidentified
code_native kc.F6 = nat.Unidentified
code_native kc.F7 = nat.Unidentified
code_native kc.F8 = nat.Unidentified
code_native kc.F9 = nat.Unidentified
code_native kc.F10 = nat.Unidentified
code_native kc.F11 = nat.Unidentified
code_native kc.F12 = nat.Unidentified
code_native kc.F13 = nat.Unidentified
code_native kc.F14 = nat.Unidentified
code_native kc.F15 = nat.Unidentified
code_native kc.F16 = nat.Unidentified
code_native kc.F17 = nat.Unidentified
code_native kc.F18 = nat.Unidentified
code_native kc.F19 = nat.Unidentified
code_native kc.F20 = nat.Unidentified
code_native kc.F21 = nat.Unidentified
code_native kc.F22 = nat.Unidentified
code_native kc.F23 = nat.Unidentified
code_native kc.F24 = nat.Unidentified
code_native kc.F25 = nat.Unidentified
code_native kc.F26 = nat.Unidentified
code_native kc.F27 = nat.Unidentified
code_native kc.F28 = nat.Unidentified
code_native kc.F29 = nat.Unidentified
code_native kc.F30 = nat.Unidentified
code_native kc.F31 = nat.Unidentified
code_native kc.F32 = nat.Unidentified
code_native kc.F33 = nat.Unidentified
code_native kc.F34 = nat.Unidentified
code_native kc.F35 = nat.Unidentified

-- the key codes that hold nothing, each with its place
unfoldable pub codes : List (ℕ × KeyCode)
codes =
    (1, kc.Backquote) ∷
    (2, kc.Backslash) ∷
    (3, kc.BracketLeft) ∷
    (4, kc.BracketRight) ∷
    (5, kc.Comma) ∷
    (6, kc.Digit0) ∷
    (7, kc.Digit1) ∷
    (8, kc.Digit2) ∷
    (9, kc.Digit3) ∷
    (10, kc.Digit4) ∷
    (11, kc.Digit5) ∷
    (12, kc.Digit6) ∷
    (13, kc.Digit7) ∷
    (14, kc.Digit8) ∷
    (15, kc.Digit9) ∷
    (16, kc.Equal) ∷
    (17, kc.IntlBackslash) ∷
    (18, kc.IntlRo) ∷
    (19, kc.IntlYen) ∷
    (20, kc.KeyA) ∷
    (21, kc.KeyB) ∷
    (22, kc.KeyC) ∷
    (23, kc.KeyD) ∷
    (24, kc.KeyE) ∷
    (25, kc.KeyF) ∷
    (26, kc.KeyG) ∷
    (27, kc.KeyH) ∷
    (28, kc.KeyI) ∷
    (29, kc.KeyJ) ∷
    (30, kc.KeyK) ∷
    (31, kc.KeyL) ∷
    (32, kc.KeyM) ∷
    (33, kc.KeyN) ∷
    (34, kc.KeyO) ∷
    (35, kc.KeyP) ∷
    (36, kc.KeyQ) ∷
    (37, kc.KeyR) ∷
    (38, kc.KeyS) ∷
    (39, kc.KeyT) ∷
    (40, kc.KeyU) ∷
    (41, kc.KeyV) ∷
    (42, kc.KeyW) ∷
    (43, kc.KeyX) ∷
    (44, kc.KeyY) ∷
    (45, kc.KeyZ) ∷
    (46, kc.Minus) ∷
    (47, kc.Plus) ∷
    (48, kc.Period) ∷
    (49, kc.Quote) ∷
    (50, kc.Semicolon) ∷
    (51, kc.Slash) ∷
    (52, kc.AltLeft) ∷
    (53, kc.AltRight) ∷
    (54, kc.Backspace) ∷
    (55, kc.CapsLock) ∷
    (56, kc.ContextMenu) ∷
    (57, kc.ControlLeft) ∷
    (58, kc.ControlRight) ∷
    (59, kc.Enter) ∷
    (60, kc.SuperLeft) ∷
    (61, kc.SuperRight) ∷
    (62, kc.ShiftLeft) ∷
    (63, kc.ShiftRight) ∷
    (64, kc.Space) ∷
    (65, kc.Tab) ∷
    (66, kc.Convert) ∷
    (67, kc.KanaMode) ∷
    (68, kc.Lang1) ∷
    (69, kc.Lang2) ∷
    (70, kc.Lang3) ∷
    (71, kc.Lang4) ∷
    (72, kc.Lang5) ∷
    (73, kc.NonConvert) ∷
    (74, kc.Delete) ∷
    (75, kc.End) ∷
    (76, kc.Help) ∷
    (77, kc.Home) ∷
    (78, kc.Insert) ∷
    (79, kc.PageDown) ∷
    (80, kc.PageUp) ∷
    (81, kc.ArrowDown) ∷
    (82, kc.ArrowLeft) ∷
    (83, kc.ArrowRight) ∷
    (84, kc.ArrowUp) ∷
    (85, kc.NumLock) ∷
    (86, kc.Numpad0) ∷
    (87, kc.Numpad1) ∷
    (88, kc.Numpad2) ∷
    (89, kc.Numpad3) ∷
    (90, kc.Numpad4) ∷
    (91, kc.Numpad5) ∷
    (92, kc.Numpad6) ∷
    (93, kc.Numpad7) ∷
    (94, kc.Numpad8) ∷
    (95, kc.Numpad9) ∷
    (96, kc.NumpadAdd) ∷
    (97, kc.NumpadBackspace) ∷
    (98, kc.NumpadClear) ∷
    (99, kc.NumpadClearEntry) ∷
    (100, kc.NumpadComma) ∷
    (101, kc.NumpadDecimal) ∷
    (102, kc.NumpadDivide) ∷
    (103, kc.NumpadEnter) ∷
    (104, kc.NumpadEqual) ∷
    (105, kc.NumpadHash) ∷
    (106, kc.NumpadMemoryAdd) ∷
    (107, kc.NumpadMemoryClear) ∷
    (108, kc.NumpadMemoryRecall) ∷
    (109, kc.NumpadMemoryStore) ∷
    (110, kc.NumpadMemorySubtract) ∷
    (111, kc.NumpadMultiply) ∷
    (112, kc.NumpadParenLeft) ∷
    (113, kc.NumpadParenRight) ∷
    (114, kc.NumpadStar) ∷
    (115, kc.NumpadSubtract) ∷
    (116, kc.Escape) ∷
    (117, kc.Fn) ∷
    (118, kc.FnLock) ∷
    (119, kc.PrintScreen) ∷
    (120, kc.ScrollLock) ∷
    (121, kc.Pause) ∷
    (122, kc.BrowserBack) ∷
    (123, kc.BrowserFavorites) ∷
    (124, kc.BrowserForward) ∷
    (125, kc.BrowserHome) ∷
    (126, kc.BrowserRefresh) ∷
    (127, kc.BrowserSearch) ∷
    (128, kc.BrowserStop) ∷
    (129, kc.Eject) ∷
    (130, kc.LaunchApp1) ∷
    (131, kc.LaunchApp2) ∷
    (132, kc.LaunchMail) ∷
    (133, kc.MediaPlayPause) ∷
    (134, kc.MediaSelect) ∷
    (135, kc.MediaStop) ∷
    (136, kc.MediaTrackNext) ∷
    (137, kc.MediaTrackPrevious) ∷
    (138, kc.Power) ∷
    (139, kc.Sleep) ∷
    (140, kc.AudioVolumeDown) ∷
    (141, kc.AudioVolumeMute) ∷
    (142, kc.AudioVolumeUp) ∷
    (143, kc.WakeUp) ∷
    (144, kc.Hyper) ∷
    (145, kc.Turbo) ∷
    (146, kc.Abort) ∷
    (147, kc.Resume) ∷
    (148, kc.Suspend) ∷
    (149, kc.Again) ∷
    (150, kc.Copy) ∷
    (151, kc.Cut) ∷
    (152, kc.Find) ∷
    (153, kc.Open) ∷
    (154, kc.Paste) ∷
    (155, kc.Props) ∷
    (156, kc.Select) ∷
    (157, kc.Undo) ∷
    (158, kc.Hiragana) ∷
    (159, kc.Katakana) ∷
    (160, kc.F1) ∷
    (161, kc.F2) ∷
    (162, kc.F3) ∷
    (163, kc.F4) ∷
    (164, kc.F5) ∷
    (165, kc.F6) ∷
    (166, kc.F7) ∷
    (167, kc.F8) ∷
    (168, kc.F9) ∷
    (169, kc.F10) ∷
    (170, kc.F11) ∷
    (171, kc.F12) ∷
    (172, kc.F13) ∷
    (173, kc.F14) ∷
    (174, kc.F15) ∷
    (175, kc.F16) ∷
    (176, kc.F17) ∷
    (177, kc.F18) ∷
    (178, kc.F19) ∷
    (179, kc.F20) ∷
    (180, kc.F21) ∷
    (181, kc.F22) ∷
    (182, kc.F23) ∷
    (183, kc.F24) ∷
    (184, kc.F25) ∷
    (185, kc.F26) ∷
    (186, kc.F27) ∷
    (187, kc.F28) ∷
    (188, kc.F29) ∷
    (189, kc.F30) ∷
    (190, kc.F31) ∷
    (191, kc.F32) ∷
    (192, kc.F33) ∷
    (193, kc.F34) ∷
    (194, kc.F35) ∷
    []

-- the key code at a place; at 0 and past the last, the unidentified one with that native code
unfoldable pub code_at : ℕ → NativeKeyCode → KeyCode
code_at n c = assoc codes (kc.Unidentified c) n
