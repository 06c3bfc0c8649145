-- `entry` meets its contract: each arm has the number that division gives for its key, and `_` that for 255.
use Prim.Native.Nat.{ℕ, ◌≤◌, min}
use mathlib.Core.Path.{◌≡◌, refl, sym, ap, ◌∙◌}
use native.Mathlib.Omega.{arith}
use Rattle.division.specs.Bits.{bits, number}
use Rattle.division.specs.Division.{exor, only_if, step, feed, checksum}
use Rattle.division.specs.Table.{entry}
use Rattle.checksum_table.proofs.entry.Goals as goal

-- what is right for an index
abbrev right : ℕ → ℕ
right x = entry 24 0x5D6DCB (min x 255)

-- so is the number of an arm whose key is the index, and that of `_`, where the index counts as 255
module _ {x n : ℕ} where
  at : {k : ℕ} → x ≡ k → n ≡ right k → n ≡ right x
  at e found = found ∙ ap right (sym e)

  at_last : 255 ≤ x → n ≡ right 255 → n ≡ right x
  at_last last found =
      let e : min x 255 ≡ 255 = omega arith in
      found ∙ ap (entry 24 0x5D6DCB) (sym e)

pub returns-in-0 : goal.returns-in-0
unfolding checksum feed step bits exor only_if number
returns-in-0 c = at c.in-0.is refl

pub returns-in-1 : goal.returns-in-1
unfolding checksum feed step bits exor only_if number
returns-in-1 c = at c.in-1.is refl

pub returns-in-2 : goal.returns-in-2
unfolding checksum feed step bits exor only_if number
returns-in-2 c = at c.in-2.is refl

pub returns-in-3 : goal.returns-in-3
unfolding checksum feed step bits exor only_if number
returns-in-3 c = at c.in-3.is refl

pub returns-in-4 : goal.returns-in-4
unfolding checksum feed step bits exor only_if number
returns-in-4 c = at c.in-4.is refl

pub returns-in-5 : goal.returns-in-5
unfolding checksum feed step bits exor only_if number
returns-in-5 c = at c.in-5.is refl

pub returns-in-6 : goal.returns-in-6
unfolding checksum feed step bits exor only_if number
returns-in-6 c = at c.in-6.is refl

pub returns-in-7 : goal.returns-in-7
unfolding checksum feed step bits exor only_if number
returns-in-7 c = at c.in-7.is refl

pub returns-in-8 : goal.returns-in-8
unfolding checksum feed step bits exor only_if number
returns-in-8 c = at c.in-8.is refl

pub returns-in-9 : goal.returns-in-9
unfolding checksum feed step bits exor only_if number
returns-in-9 c = at c.in-9.is refl

pub returns-in-10 : goal.returns-in-10
unfolding checksum feed step bits exor only_if number
returns-in-10 c = at c.in-10.is refl

pub returns-in-11 : goal.returns-in-11
unfolding checksum feed step bits exor only_if number
returns-in-11 c = at c.in-11.is refl

pub returns-in-12 : goal.returns-in-12
unfolding checksum feed step bits exor only_if number
returns-in-12 c = at c.in-12.is refl

pub returns-in-13 : goal.returns-in-13
unfolding checksum feed step bits exor only_if number
returns-in-13 c = at c.in-13.is refl

pub returns-in-14 : goal.returns-in-14
unfolding checksum feed step bits exor only_if number
returns-in-14 c = at c.in-14.is refl

pub returns-in-15 : goal.returns-in-15
unfolding checksum feed step bits exor only_if number
returns-in-15 c = at c.in-15.is refl

pub returns-in-16 : goal.returns-in-16
unfolding checksum feed step bits exor only_if number
returns-in-16 c = at c.in-16.is refl

pub returns-in-17 : goal.returns-in-17
unfolding checksum feed step bits exor only_if number
returns-in-17 c = at c.in-17.is refl

pub returns-in-18 : goal.returns-in-18
unfolding checksum feed step bits exor only_if number
returns-in-18 c = at c.in-18.is refl

pub returns-in-19 : goal.returns-in-19
unfolding checksum feed step bits exor only_if number
returns-in-19 c = at c.in-19.is refl

pub returns-in-20 : goal.returns-in-20
unfolding checksum feed step bits exor only_if number
returns-in-20 c = at c.in-20.is refl

pub returns-in-21 : goal.returns-in-21
unfolding checksum feed step bits exor only_if number
returns-in-21 c = at c.in-21.is refl

pub returns-in-22 : goal.returns-in-22
unfolding checksum feed step bits exor only_if number
returns-in-22 c = at c.in-22.is refl

pub returns-in-23 : goal.returns-in-23
unfolding checksum feed step bits exor only_if number
returns-in-23 c = at c.in-23.is refl

pub returns-in-24 : goal.returns-in-24
unfolding checksum feed step bits exor only_if number
returns-in-24 c = at c.in-24.is refl

pub returns-in-25 : goal.returns-in-25
unfolding checksum feed step bits exor only_if number
returns-in-25 c = at c.in-25.is refl

pub returns-in-26 : goal.returns-in-26
unfolding checksum feed step bits exor only_if number
returns-in-26 c = at c.in-26.is refl

pub returns-in-27 : goal.returns-in-27
unfolding checksum feed step bits exor only_if number
returns-in-27 c = at c.in-27.is refl

pub returns-in-28 : goal.returns-in-28
unfolding checksum feed step bits exor only_if number
returns-in-28 c = at c.in-28.is refl

pub returns-in-29 : goal.returns-in-29
unfolding checksum feed step bits exor only_if number
returns-in-29 c = at c.in-29.is refl

pub returns-in-30 : goal.returns-in-30
unfolding checksum feed step bits exor only_if number
returns-in-30 c = at c.in-30.is refl

pub returns-in-31 : goal.returns-in-31
unfolding checksum feed step bits exor only_if number
returns-in-31 c = at c.in-31.is refl

pub returns-in-32 : goal.returns-in-32
unfolding checksum feed step bits exor only_if number
returns-in-32 c = at c.in-32.is refl

pub returns-in-33 : goal.returns-in-33
unfolding checksum feed step bits exor only_if number
returns-in-33 c = at c.in-33.is refl

pub returns-in-34 : goal.returns-in-34
unfolding checksum feed step bits exor only_if number
returns-in-34 c = at c.in-34.is refl

pub returns-in-35 : goal.returns-in-35
unfolding checksum feed step bits exor only_if number
returns-in-35 c = at c.in-35.is refl

pub returns-in-36 : goal.returns-in-36
unfolding checksum feed step bits exor only_if number
returns-in-36 c = at c.in-36.is refl

pub returns-in-37 : goal.returns-in-37
unfolding checksum feed step bits exor only_if number
returns-in-37 c = at c.in-37.is refl

pub returns-in-38 : goal.returns-in-38
unfolding checksum feed step bits exor only_if number
returns-in-38 c = at c.in-38.is refl

pub returns-in-39 : goal.returns-in-39
unfolding checksum feed step bits exor only_if number
returns-in-39 c = at c.in-39.is refl

pub returns-in-40 : goal.returns-in-40
unfolding checksum feed step bits exor only_if number
returns-in-40 c = at c.in-40.is refl

pub returns-in-41 : goal.returns-in-41
unfolding checksum feed step bits exor only_if number
returns-in-41 c = at c.in-41.is refl

pub returns-in-42 : goal.returns-in-42
unfolding checksum feed step bits exor only_if number
returns-in-42 c = at c.in-42.is refl

pub returns-in-43 : goal.returns-in-43
unfolding checksum feed step bits exor only_if number
returns-in-43 c = at c.in-43.is refl

pub returns-in-44 : goal.returns-in-44
unfolding checksum feed step bits exor only_if number
returns-in-44 c = at c.in-44.is refl

pub returns-in-45 : goal.returns-in-45
unfolding checksum feed step bits exor only_if number
returns-in-45 c = at c.in-45.is refl

pub returns-in-46 : goal.returns-in-46
unfolding checksum feed step bits exor only_if number
returns-in-46 c = at c.in-46.is refl

pub returns-in-47 : goal.returns-in-47
unfolding checksum feed step bits exor only_if number
returns-in-47 c = at c.in-47.is refl

pub returns-in-48 : goal.returns-in-48
unfolding checksum feed step bits exor only_if number
returns-in-48 c = at c.in-48.is refl

pub returns-in-49 : goal.returns-in-49
unfolding checksum feed step bits exor only_if number
returns-in-49 c = at c.in-49.is refl

pub returns-in-50 : goal.returns-in-50
unfolding checksum feed step bits exor only_if number
returns-in-50 c = at c.in-50.is refl

pub returns-in-51 : goal.returns-in-51
unfolding checksum feed step bits exor only_if number
returns-in-51 c = at c.in-51.is refl

pub returns-in-52 : goal.returns-in-52
unfolding checksum feed step bits exor only_if number
returns-in-52 c = at c.in-52.is refl

pub returns-in-53 : goal.returns-in-53
unfolding checksum feed step bits exor only_if number
returns-in-53 c = at c.in-53.is refl

pub returns-in-54 : goal.returns-in-54
unfolding checksum feed step bits exor only_if number
returns-in-54 c = at c.in-54.is refl

pub returns-in-55 : goal.returns-in-55
unfolding checksum feed step bits exor only_if number
returns-in-55 c = at c.in-55.is refl

pub returns-in-56 : goal.returns-in-56
unfolding checksum feed step bits exor only_if number
returns-in-56 c = at c.in-56.is refl

pub returns-in-57 : goal.returns-in-57
unfolding checksum feed step bits exor only_if number
returns-in-57 c = at c.in-57.is refl

pub returns-in-58 : goal.returns-in-58
unfolding checksum feed step bits exor only_if number
returns-in-58 c = at c.in-58.is refl

pub returns-in-59 : goal.returns-in-59
unfolding checksum feed step bits exor only_if number
returns-in-59 c = at c.in-59.is refl

pub returns-in-60 : goal.returns-in-60
unfolding checksum feed step bits exor only_if number
returns-in-60 c = at c.in-60.is refl

pub returns-in-61 : goal.returns-in-61
unfolding checksum feed step bits exor only_if number
returns-in-61 c = at c.in-61.is refl

pub returns-in-62 : goal.returns-in-62
unfolding checksum feed step bits exor only_if number
returns-in-62 c = at c.in-62.is refl

pub returns-in-63 : goal.returns-in-63
unfolding checksum feed step bits exor only_if number
returns-in-63 c = at c.in-63.is refl

pub returns-in-64 : goal.returns-in-64
unfolding checksum feed step bits exor only_if number
returns-in-64 c = at c.in-64.is refl

pub returns-in-65 : goal.returns-in-65
unfolding checksum feed step bits exor only_if number
returns-in-65 c = at c.in-65.is refl

pub returns-in-66 : goal.returns-in-66
unfolding checksum feed step bits exor only_if number
returns-in-66 c = at c.in-66.is refl

pub returns-in-67 : goal.returns-in-67
unfolding checksum feed step bits exor only_if number
returns-in-67 c = at c.in-67.is refl

pub returns-in-68 : goal.returns-in-68
unfolding checksum feed step bits exor only_if number
returns-in-68 c = at c.in-68.is refl

pub returns-in-69 : goal.returns-in-69
unfolding checksum feed step bits exor only_if number
returns-in-69 c = at c.in-69.is refl

pub returns-in-70 : goal.returns-in-70
unfolding checksum feed step bits exor only_if number
returns-in-70 c = at c.in-70.is refl

pub returns-in-71 : goal.returns-in-71
unfolding checksum feed step bits exor only_if number
returns-in-71 c = at c.in-71.is refl

pub returns-in-72 : goal.returns-in-72
unfolding checksum feed step bits exor only_if number
returns-in-72 c = at c.in-72.is refl

pub returns-in-73 : goal.returns-in-73
unfolding checksum feed step bits exor only_if number
returns-in-73 c = at c.in-73.is refl

pub returns-in-74 : goal.returns-in-74
unfolding checksum feed step bits exor only_if number
returns-in-74 c = at c.in-74.is refl

pub returns-in-75 : goal.returns-in-75
unfolding checksum feed step bits exor only_if number
returns-in-75 c = at c.in-75.is refl

pub returns-in-76 : goal.returns-in-76
unfolding checksum feed step bits exor only_if number
returns-in-76 c = at c.in-76.is refl

pub returns-in-77 : goal.returns-in-77
unfolding checksum feed step bits exor only_if number
returns-in-77 c = at c.in-77.is refl

pub returns-in-78 : goal.returns-in-78
unfolding checksum feed step bits exor only_if number
returns-in-78 c = at c.in-78.is refl

pub returns-in-79 : goal.returns-in-79
unfolding checksum feed step bits exor only_if number
returns-in-79 c = at c.in-79.is refl

pub returns-in-80 : goal.returns-in-80
unfolding checksum feed step bits exor only_if number
returns-in-80 c = at c.in-80.is refl

pub returns-in-81 : goal.returns-in-81
unfolding checksum feed step bits exor only_if number
returns-in-81 c = at c.in-81.is refl

pub returns-in-82 : goal.returns-in-82
unfolding checksum feed step bits exor only_if number
returns-in-82 c = at c.in-82.is refl

pub returns-in-83 : goal.returns-in-83
unfolding checksum feed step bits exor only_if number
returns-in-83 c = at c.in-83.is refl

pub returns-in-84 : goal.returns-in-84
unfolding checksum feed step bits exor only_if number
returns-in-84 c = at c.in-84.is refl

pub returns-in-85 : goal.returns-in-85
unfolding checksum feed step bits exor only_if number
returns-in-85 c = at c.in-85.is refl

pub returns-in-86 : goal.returns-in-86
unfolding checksum feed step bits exor only_if number
returns-in-86 c = at c.in-86.is refl

pub returns-in-87 : goal.returns-in-87
unfolding checksum feed step bits exor only_if number
returns-in-87 c = at c.in-87.is refl

pub returns-in-88 : goal.returns-in-88
unfolding checksum feed step bits exor only_if number
returns-in-88 c = at c.in-88.is refl

pub returns-in-89 : goal.returns-in-89
unfolding checksum feed step bits exor only_if number
returns-in-89 c = at c.in-89.is refl

pub returns-in-90 : goal.returns-in-90
unfolding checksum feed step bits exor only_if number
returns-in-90 c = at c.in-90.is refl

pub returns-in-91 : goal.returns-in-91
unfolding checksum feed step bits exor only_if number
returns-in-91 c = at c.in-91.is refl

pub returns-in-92 : goal.returns-in-92
unfolding checksum feed step bits exor only_if number
returns-in-92 c = at c.in-92.is refl

pub returns-in-93 : goal.returns-in-93
unfolding checksum feed step bits exor only_if number
returns-in-93 c = at c.in-93.is refl

pub returns-in-94 : goal.returns-in-94
unfolding checksum feed step bits exor only_if number
returns-in-94 c = at c.in-94.is refl

pub returns-in-95 : goal.returns-in-95
unfolding checksum feed step bits exor only_if number
returns-in-95 c = at c.in-95.is refl

pub returns-in-96 : goal.returns-in-96
unfolding checksum feed step bits exor only_if number
returns-in-96 c = at c.in-96.is refl

pub returns-in-97 : goal.returns-in-97
unfolding checksum feed step bits exor only_if number
returns-in-97 c = at c.in-97.is refl

pub returns-in-98 : goal.returns-in-98
unfolding checksum feed step bits exor only_if number
returns-in-98 c = at c.in-98.is refl

pub returns-in-99 : goal.returns-in-99
unfolding checksum feed step bits exor only_if number
returns-in-99 c = at c.in-99.is refl

pub returns-in-100 : goal.returns-in-100
unfolding checksum feed step bits exor only_if number
returns-in-100 c = at c.in-100.is refl

pub returns-in-101 : goal.returns-in-101
unfolding checksum feed step bits exor only_if number
returns-in-101 c = at c.in-101.is refl

pub returns-in-102 : goal.returns-in-102
unfolding checksum feed step bits exor only_if number
returns-in-102 c = at c.in-102.is refl

pub returns-in-103 : goal.returns-in-103
unfolding checksum feed step bits exor only_if number
returns-in-103 c = at c.in-103.is refl

pub returns-in-104 : goal.returns-in-104
unfolding checksum feed step bits exor only_if number
returns-in-104 c = at c.in-104.is refl

pub returns-in-105 : goal.returns-in-105
unfolding checksum feed step bits exor only_if number
returns-in-105 c = at c.in-105.is refl

pub returns-in-106 : goal.returns-in-106
unfolding checksum feed step bits exor only_if number
returns-in-106 c = at c.in-106.is refl

pub returns-in-107 : goal.returns-in-107
unfolding checksum feed step bits exor only_if number
returns-in-107 c = at c.in-107.is refl

pub returns-in-108 : goal.returns-in-108
unfolding checksum feed step bits exor only_if number
returns-in-108 c = at c.in-108.is refl

pub returns-in-109 : goal.returns-in-109
unfolding checksum feed step bits exor only_if number
returns-in-109 c = at c.in-109.is refl

pub returns-in-110 : goal.returns-in-110
unfolding checksum feed step bits exor only_if number
returns-in-110 c = at c.in-110.is refl

pub returns-in-111 : goal.returns-in-111
unfolding checksum feed step bits exor only_if number
returns-in-111 c = at c.in-111.is refl

pub returns-in-112 : goal.returns-in-112
unfolding checksum feed step bits exor only_if number
returns-in-112 c = at c.in-112.is refl

pub returns-in-113 : goal.returns-in-113
unfolding checksum feed step bits exor only_if number
returns-in-113 c = at c.in-113.is refl

pub returns-in-114 : goal.returns-in-114
unfolding checksum feed step bits exor only_if number
returns-in-114 c = at c.in-114.is refl

pub returns-in-115 : goal.returns-in-115
unfolding checksum feed step bits exor only_if number
returns-in-115 c = at c.in-115.is refl

pub returns-in-116 : goal.returns-in-116
unfolding checksum feed step bits exor only_if number
returns-in-116 c = at c.in-116.is refl

pub returns-in-117 : goal.returns-in-117
unfolding checksum feed step bits exor only_if number
returns-in-117 c = at c.in-117.is refl

pub returns-in-118 : goal.returns-in-118
unfolding checksum feed step bits exor only_if number
returns-in-118 c = at c.in-118.is refl

pub returns-in-119 : goal.returns-in-119
unfolding checksum feed step bits exor only_if number
returns-in-119 c = at c.in-119.is refl

pub returns-in-120 : goal.returns-in-120
unfolding checksum feed step bits exor only_if number
returns-in-120 c = at c.in-120.is refl

pub returns-in-121 : goal.returns-in-121
unfolding checksum feed step bits exor only_if number
returns-in-121 c = at c.in-121.is refl

pub returns-in-122 : goal.returns-in-122
unfolding checksum feed step bits exor only_if number
returns-in-122 c = at c.in-122.is refl

pub returns-in-123 : goal.returns-in-123
unfolding checksum feed step bits exor only_if number
returns-in-123 c = at c.in-123.is refl

pub returns-in-124 : goal.returns-in-124
unfolding checksum feed step bits exor only_if number
returns-in-124 c = at c.in-124.is refl

pub returns-in-125 : goal.returns-in-125
unfolding checksum feed step bits exor only_if number
returns-in-125 c = at c.in-125.is refl

pub returns-in-126 : goal.returns-in-126
unfolding checksum feed step bits exor only_if number
returns-in-126 c = at c.in-126.is refl

pub returns-in-127 : goal.returns-in-127
unfolding checksum feed step bits exor only_if number
returns-in-127 c = at c.in-127.is refl

pub returns-in-128 : goal.returns-in-128
unfolding checksum feed step bits exor only_if number
returns-in-128 c = at c.in-128.is refl

pub returns-in-129 : goal.returns-in-129
unfolding checksum feed step bits exor only_if number
returns-in-129 c = at c.in-129.is refl

pub returns-in-130 : goal.returns-in-130
unfolding checksum feed step bits exor only_if number
returns-in-130 c = at c.in-130.is refl

pub returns-in-131 : goal.returns-in-131
unfolding checksum feed step bits exor only_if number
returns-in-131 c = at c.in-131.is refl

pub returns-in-132 : goal.returns-in-132
unfolding checksum feed step bits exor only_if number
returns-in-132 c = at c.in-132.is refl

pub returns-in-133 : goal.returns-in-133
unfolding checksum feed step bits exor only_if number
returns-in-133 c = at c.in-133.is refl

pub returns-in-134 : goal.returns-in-134
unfolding checksum feed step bits exor only_if number
returns-in-134 c = at c.in-134.is refl

pub returns-in-135 : goal.returns-in-135
unfolding checksum feed step bits exor only_if number
returns-in-135 c = at c.in-135.is refl

pub returns-in-136 : goal.returns-in-136
unfolding checksum feed step bits exor only_if number
returns-in-136 c = at c.in-136.is refl

pub returns-in-137 : goal.returns-in-137
unfolding checksum feed step bits exor only_if number
returns-in-137 c = at c.in-137.is refl

pub returns-in-138 : goal.returns-in-138
unfolding checksum feed step bits exor only_if number
returns-in-138 c = at c.in-138.is refl

pub returns-in-139 : goal.returns-in-139
unfolding checksum feed step bits exor only_if number
returns-in-139 c = at c.in-139.is refl

pub returns-in-140 : goal.returns-in-140
unfolding checksum feed step bits exor only_if number
returns-in-140 c = at c.in-140.is refl

pub returns-in-141 : goal.returns-in-141
unfolding checksum feed step bits exor only_if number
returns-in-141 c = at c.in-141.is refl

pub returns-in-142 : goal.returns-in-142
unfolding checksum feed step bits exor only_if number
returns-in-142 c = at c.in-142.is refl

pub returns-in-143 : goal.returns-in-143
unfolding checksum feed step bits exor only_if number
returns-in-143 c = at c.in-143.is refl

pub returns-in-144 : goal.returns-in-144
unfolding checksum feed step bits exor only_if number
returns-in-144 c = at c.in-144.is refl

pub returns-in-145 : goal.returns-in-145
unfolding checksum feed step bits exor only_if number
returns-in-145 c = at c.in-145.is refl

pub returns-in-146 : goal.returns-in-146
unfolding checksum feed step bits exor only_if number
returns-in-146 c = at c.in-146.is refl

pub returns-in-147 : goal.returns-in-147
unfolding checksum feed step bits exor only_if number
returns-in-147 c = at c.in-147.is refl

pub returns-in-148 : goal.returns-in-148
unfolding checksum feed step bits exor only_if number
returns-in-148 c = at c.in-148.is refl

pub returns-in-149 : goal.returns-in-149
unfolding checksum feed step bits exor only_if number
returns-in-149 c = at c.in-149.is refl

pub returns-in-150 : goal.returns-in-150
unfolding checksum feed step bits exor only_if number
returns-in-150 c = at c.in-150.is refl

pub returns-in-151 : goal.returns-in-151
unfolding checksum feed step bits exor only_if number
returns-in-151 c = at c.in-151.is refl

pub returns-in-152 : goal.returns-in-152
unfolding checksum feed step bits exor only_if number
returns-in-152 c = at c.in-152.is refl

pub returns-in-153 : goal.returns-in-153
unfolding checksum feed step bits exor only_if number
returns-in-153 c = at c.in-153.is refl

pub returns-in-154 : goal.returns-in-154
unfolding checksum feed step bits exor only_if number
returns-in-154 c = at c.in-154.is refl

pub returns-in-155 : goal.returns-in-155
unfolding checksum feed step bits exor only_if number
returns-in-155 c = at c.in-155.is refl

pub returns-in-156 : goal.returns-in-156
unfolding checksum feed step bits exor only_if number
returns-in-156 c = at c.in-156.is refl

pub returns-in-157 : goal.returns-in-157
unfolding checksum feed step bits exor only_if number
returns-in-157 c = at c.in-157.is refl

pub returns-in-158 : goal.returns-in-158
unfolding checksum feed step bits exor only_if number
returns-in-158 c = at c.in-158.is refl

pub returns-in-159 : goal.returns-in-159
unfolding checksum feed step bits exor only_if number
returns-in-159 c = at c.in-159.is refl

pub returns-in-160 : goal.returns-in-160
unfolding checksum feed step bits exor only_if number
returns-in-160 c = at c.in-160.is refl

pub returns-in-161 : goal.returns-in-161
unfolding checksum feed step bits exor only_if number
returns-in-161 c = at c.in-161.is refl

pub returns-in-162 : goal.returns-in-162
unfolding checksum feed step bits exor only_if number
returns-in-162 c = at c.in-162.is refl

pub returns-in-163 : goal.returns-in-163
unfolding checksum feed step bits exor only_if number
returns-in-163 c = at c.in-163.is refl

pub returns-in-164 : goal.returns-in-164
unfolding checksum feed step bits exor only_if number
returns-in-164 c = at c.in-164.is refl

pub returns-in-165 : goal.returns-in-165
unfolding checksum feed step bits exor only_if number
returns-in-165 c = at c.in-165.is refl

pub returns-in-166 : goal.returns-in-166
unfolding checksum feed step bits exor only_if number
returns-in-166 c = at c.in-166.is refl

pub returns-in-167 : goal.returns-in-167
unfolding checksum feed step bits exor only_if number
returns-in-167 c = at c.in-167.is refl

pub returns-in-168 : goal.returns-in-168
unfolding checksum feed step bits exor only_if number
returns-in-168 c = at c.in-168.is refl

pub returns-in-169 : goal.returns-in-169
unfolding checksum feed step bits exor only_if number
returns-in-169 c = at c.in-169.is refl

pub returns-in-170 : goal.returns-in-170
unfolding checksum feed step bits exor only_if number
returns-in-170 c = at c.in-170.is refl

pub returns-in-171 : goal.returns-in-171
unfolding checksum feed step bits exor only_if number
returns-in-171 c = at c.in-171.is refl

pub returns-in-172 : goal.returns-in-172
unfolding checksum feed step bits exor only_if number
returns-in-172 c = at c.in-172.is refl

pub returns-in-173 : goal.returns-in-173
unfolding checksum feed step bits exor only_if number
returns-in-173 c = at c.in-173.is refl

pub returns-in-174 : goal.returns-in-174
unfolding checksum feed step bits exor only_if number
returns-in-174 c = at c.in-174.is refl

pub returns-in-175 : goal.returns-in-175
unfolding checksum feed step bits exor only_if number
returns-in-175 c = at c.in-175.is refl

pub returns-in-176 : goal.returns-in-176
unfolding checksum feed step bits exor only_if number
returns-in-176 c = at c.in-176.is refl

pub returns-in-177 : goal.returns-in-177
unfolding checksum feed step bits exor only_if number
returns-in-177 c = at c.in-177.is refl

pub returns-in-178 : goal.returns-in-178
unfolding checksum feed step bits exor only_if number
returns-in-178 c = at c.in-178.is refl

pub returns-in-179 : goal.returns-in-179
unfolding checksum feed step bits exor only_if number
returns-in-179 c = at c.in-179.is refl

pub returns-in-180 : goal.returns-in-180
unfolding checksum feed step bits exor only_if number
returns-in-180 c = at c.in-180.is refl

pub returns-in-181 : goal.returns-in-181
unfolding checksum feed step bits exor only_if number
returns-in-181 c = at c.in-181.is refl

pub returns-in-182 : goal.returns-in-182
unfolding checksum feed step bits exor only_if number
returns-in-182 c = at c.in-182.is refl

pub returns-in-183 : goal.returns-in-183
unfolding checksum feed step bits exor only_if number
returns-in-183 c = at c.in-183.is refl

pub returns-in-184 : goal.returns-in-184
unfolding checksum feed step bits exor only_if number
returns-in-184 c = at c.in-184.is refl

pub returns-in-185 : goal.returns-in-185
unfolding checksum feed step bits exor only_if number
returns-in-185 c = at c.in-185.is refl

pub returns-in-186 : goal.returns-in-186
unfolding checksum feed step bits exor only_if number
returns-in-186 c = at c.in-186.is refl

pub returns-in-187 : goal.returns-in-187
unfolding checksum feed step bits exor only_if number
returns-in-187 c = at c.in-187.is refl

pub returns-in-188 : goal.returns-in-188
unfolding checksum feed step bits exor only_if number
returns-in-188 c = at c.in-188.is refl

pub returns-in-189 : goal.returns-in-189
unfolding checksum feed step bits exor only_if number
returns-in-189 c = at c.in-189.is refl

pub returns-in-190 : goal.returns-in-190
unfolding checksum feed step bits exor only_if number
returns-in-190 c = at c.in-190.is refl

pub returns-in-191 : goal.returns-in-191
unfolding checksum feed step bits exor only_if number
returns-in-191 c = at c.in-191.is refl

pub returns-in-192 : goal.returns-in-192
unfolding checksum feed step bits exor only_if number
returns-in-192 c = at c.in-192.is refl

pub returns-in-193 : goal.returns-in-193
unfolding checksum feed step bits exor only_if number
returns-in-193 c = at c.in-193.is refl

pub returns-in-194 : goal.returns-in-194
unfolding checksum feed step bits exor only_if number
returns-in-194 c = at c.in-194.is refl

pub returns-in-195 : goal.returns-in-195
unfolding checksum feed step bits exor only_if number
returns-in-195 c = at c.in-195.is refl

pub returns-in-196 : goal.returns-in-196
unfolding checksum feed step bits exor only_if number
returns-in-196 c = at c.in-196.is refl

pub returns-in-197 : goal.returns-in-197
unfolding checksum feed step bits exor only_if number
returns-in-197 c = at c.in-197.is refl

pub returns-in-198 : goal.returns-in-198
unfolding checksum feed step bits exor only_if number
returns-in-198 c = at c.in-198.is refl

pub returns-in-199 : goal.returns-in-199
unfolding checksum feed step bits exor only_if number
returns-in-199 c = at c.in-199.is refl

pub returns-in-200 : goal.returns-in-200
unfolding checksum feed step bits exor only_if number
returns-in-200 c = at c.in-200.is refl

pub returns-in-201 : goal.returns-in-201
unfolding checksum feed step bits exor only_if number
returns-in-201 c = at c.in-201.is refl

pub returns-in-202 : goal.returns-in-202
unfolding checksum feed step bits exor only_if number
returns-in-202 c = at c.in-202.is refl

pub returns-in-203 : goal.returns-in-203
unfolding checksum feed step bits exor only_if number
returns-in-203 c = at c.in-203.is refl

pub returns-in-204 : goal.returns-in-204
unfolding checksum feed step bits exor only_if number
returns-in-204 c = at c.in-204.is refl

pub returns-in-205 : goal.returns-in-205
unfolding checksum feed step bits exor only_if number
returns-in-205 c = at c.in-205.is refl

pub returns-in-206 : goal.returns-in-206
unfolding checksum feed step bits exor only_if number
returns-in-206 c = at c.in-206.is refl

pub returns-in-207 : goal.returns-in-207
unfolding checksum feed step bits exor only_if number
returns-in-207 c = at c.in-207.is refl

pub returns-in-208 : goal.returns-in-208
unfolding checksum feed step bits exor only_if number
returns-in-208 c = at c.in-208.is refl

pub returns-in-209 : goal.returns-in-209
unfolding checksum feed step bits exor only_if number
returns-in-209 c = at c.in-209.is refl

pub returns-in-210 : goal.returns-in-210
unfolding checksum feed step bits exor only_if number
returns-in-210 c = at c.in-210.is refl

pub returns-in-211 : goal.returns-in-211
unfolding checksum feed step bits exor only_if number
returns-in-211 c = at c.in-211.is refl

pub returns-in-212 : goal.returns-in-212
unfolding checksum feed step bits exor only_if number
returns-in-212 c = at c.in-212.is refl

pub returns-in-213 : goal.returns-in-213
unfolding checksum feed step bits exor only_if number
returns-in-213 c = at c.in-213.is refl

pub returns-in-214 : goal.returns-in-214
unfolding checksum feed step bits exor only_if number
returns-in-214 c = at c.in-214.is refl

pub returns-in-215 : goal.returns-in-215
unfolding checksum feed step bits exor only_if number
returns-in-215 c = at c.in-215.is refl

pub returns-in-216 : goal.returns-in-216
unfolding checksum feed step bits exor only_if number
returns-in-216 c = at c.in-216.is refl

pub returns-in-217 : goal.returns-in-217
unfolding checksum feed step bits exor only_if number
returns-in-217 c = at c.in-217.is refl

pub returns-in-218 : goal.returns-in-218
unfolding checksum feed step bits exor only_if number
returns-in-218 c = at c.in-218.is refl

pub returns-in-219 : goal.returns-in-219
unfolding checksum feed step bits exor only_if number
returns-in-219 c = at c.in-219.is refl

pub returns-in-220 : goal.returns-in-220
unfolding checksum feed step bits exor only_if number
returns-in-220 c = at c.in-220.is refl

pub returns-in-221 : goal.returns-in-221
unfolding checksum feed step bits exor only_if number
returns-in-221 c = at c.in-221.is refl

pub returns-in-222 : goal.returns-in-222
unfolding checksum feed step bits exor only_if number
returns-in-222 c = at c.in-222.is refl

pub returns-in-223 : goal.returns-in-223
unfolding checksum feed step bits exor only_if number
returns-in-223 c = at c.in-223.is refl

pub returns-in-224 : goal.returns-in-224
unfolding checksum feed step bits exor only_if number
returns-in-224 c = at c.in-224.is refl

pub returns-in-225 : goal.returns-in-225
unfolding checksum feed step bits exor only_if number
returns-in-225 c = at c.in-225.is refl

pub returns-in-226 : goal.returns-in-226
unfolding checksum feed step bits exor only_if number
returns-in-226 c = at c.in-226.is refl

pub returns-in-227 : goal.returns-in-227
unfolding checksum feed step bits exor only_if number
returns-in-227 c = at c.in-227.is refl

pub returns-in-228 : goal.returns-in-228
unfolding checksum feed step bits exor only_if number
returns-in-228 c = at c.in-228.is refl

pub returns-in-229 : goal.returns-in-229
unfolding checksum feed step bits exor only_if number
returns-in-229 c = at c.in-229.is refl

pub returns-in-230 : goal.returns-in-230
unfolding checksum feed step bits exor only_if number
returns-in-230 c = at c.in-230.is refl

pub returns-in-231 : goal.returns-in-231
unfolding checksum feed step bits exor only_if number
returns-in-231 c = at c.in-231.is refl

pub returns-in-232 : goal.returns-in-232
unfolding checksum feed step bits exor only_if number
returns-in-232 c = at c.in-232.is refl

pub returns-in-233 : goal.returns-in-233
unfolding checksum feed step bits exor only_if number
returns-in-233 c = at c.in-233.is refl

pub returns-in-234 : goal.returns-in-234
unfolding checksum feed step bits exor only_if number
returns-in-234 c = at c.in-234.is refl

pub returns-in-235 : goal.returns-in-235
unfolding checksum feed step bits exor only_if number
returns-in-235 c = at c.in-235.is refl

pub returns-in-236 : goal.returns-in-236
unfolding checksum feed step bits exor only_if number
returns-in-236 c = at c.in-236.is refl

pub returns-in-237 : goal.returns-in-237
unfolding checksum feed step bits exor only_if number
returns-in-237 c = at c.in-237.is refl

pub returns-in-238 : goal.returns-in-238
unfolding checksum feed step bits exor only_if number
returns-in-238 c = at c.in-238.is refl

pub returns-in-239 : goal.returns-in-239
unfolding checksum feed step bits exor only_if number
returns-in-239 c = at c.in-239.is refl

pub returns-in-240 : goal.returns-in-240
unfolding checksum feed step bits exor only_if number
returns-in-240 c = at c.in-240.is refl

pub returns-in-241 : goal.returns-in-241
unfolding checksum feed step bits exor only_if number
returns-in-241 c = at c.in-241.is refl

pub returns-in-242 : goal.returns-in-242
unfolding checksum feed step bits exor only_if number
returns-in-242 c = at c.in-242.is refl

pub returns-in-243 : goal.returns-in-243
unfolding checksum feed step bits exor only_if number
returns-in-243 c = at c.in-243.is refl

pub returns-in-244 : goal.returns-in-244
unfolding checksum feed step bits exor only_if number
returns-in-244 c = at c.in-244.is refl

pub returns-in-245 : goal.returns-in-245
unfolding checksum feed step bits exor only_if number
returns-in-245 c = at c.in-245.is refl

pub returns-in-246 : goal.returns-in-246
unfolding checksum feed step bits exor only_if number
returns-in-246 c = at c.in-246.is refl

pub returns-in-247 : goal.returns-in-247
unfolding checksum feed step bits exor only_if number
returns-in-247 c = at c.in-247.is refl

pub returns-in-248 : goal.returns-in-248
unfolding checksum feed step bits exor only_if number
returns-in-248 c = at c.in-248.is refl

pub returns-in-249 : goal.returns-in-249
unfolding checksum feed step bits exor only_if number
returns-in-249 c = at c.in-249.is refl

pub returns-in-250 : goal.returns-in-250
unfolding checksum feed step bits exor only_if number
returns-in-250 c = at c.in-250.is refl

pub returns-in-251 : goal.returns-in-251
unfolding checksum feed step bits exor only_if number
returns-in-251 c = at c.in-251.is refl

pub returns-in-252 : goal.returns-in-252
unfolding checksum feed step bits exor only_if number
returns-in-252 c = at c.in-252.is refl

pub returns-in-253 : goal.returns-in-253
unfolding checksum feed step bits exor only_if number
returns-in-253 c = at c.in-253.is refl

pub returns-in-254 : goal.returns-in-254
unfolding checksum feed step bits exor only_if number
returns-in-254 c = at c.in-254.is refl

pub returns-in_default : goal.returns-in_default
unfolding checksum feed step bits exor only_if number
returns-in_default c = at_last {x = c.args.index} (omega arith) refl
